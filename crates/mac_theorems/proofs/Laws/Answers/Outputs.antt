-- What a call in either mode leaves in its output or work buffer. Assumes nothing.
use Prim.Native.Nat.{ℕ, ◌≤◌}
use mathlib.Core.Path.{◌≡◌, refl, sym, ap, ap₂, ◌∙◌}
use mathlib.Core.Bool.{true, false}
use mathlib.Core.List.{List, ◌++◌}
use native.Mathlib.Omega.{arith}
use lib.ListN.{length, take, drop, length-append, length-drop}
use lib.Seq.{take_at, drop_at}
use Rattle.stream.specs.Walk.{left_in}
use Rattle.mac.specs.Result.{Result, is_accepted, output_after}

pub output-refused : (c : Result) (out : List ℕ) → is_accepted c ≡ false → output_after c out ≡ out
unfolding output_after left_in
output-refused c out h = rw h

module _ (c : Result) (out : List ℕ) (h : is_accepted c ≡ true) where
  output-is : output_after c out ≡ c.stream ++ drop (length c.stream) out
  unfolding output_after left_in
  output-is = rw h

  pub output-room : length c.stream ≤ length out → length (output_after c out) ≡ length out
  output-room k = ap length output-is ∙ omega (arith, length-append c.stream (drop (length c.stream) out), length-drop (length c.stream) out)

  module _ (length-is : c.answer.length ≡ length c.stream) where
    pub output-stream : take c.answer.length (output_after c out) ≡ c.stream
    output-stream =
        ap₂ (λ (n : ℕ) (x : List ℕ). take n x) length-is output-is ∙ take_at c.stream (drop (length c.stream) out) (length c.stream) refl

    pub output-rest : drop c.answer.length (output_after c out) ≡ drop c.answer.length out
    output-rest =
        ap₂ (λ (n : ℕ) (x : List ℕ). drop n x) length-is output-is
        ∙ drop_at c.stream (drop (length c.stream) out) (length c.stream) refl
        ∙ ap (λ (n : ℕ). drop n out) (sym length-is)
