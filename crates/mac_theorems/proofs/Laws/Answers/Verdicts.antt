-- What a check says. Assumes nothing.
use Rattle.std.proofs.Common.{if◌then◌else◌}
use Prim.Native.Nat.{ℕ}
use mathlib.Core.Path.{◌≡◌, refl, sym, ap, ap₂, ◌∙◌}
use mathlib.Core.Bool.{Bool, true, false, true≢false, false≢true}
use mathlib.Core.List.{List}
use mathlib.Core.Option.{Option, some}
use native.Mathlib.Omega.{arith}
use Rattle.slices.proofs.Laws.SameBytes.{same_bytes_lem, differ}
use Rattle.digest.specs.Message.{digest_of}
use Rattle.digest.specs.Sha256.{sha256}
use Rattle.mac.specs.Result.{Result, is_accepted, neither, same, differs, compared, verdict_of}
use Rattle.slices.specs.Lists.{same_bytes}
use Rattle.mac_theorems.specs.Theorems.{Says}

-- ---- the verdict
abbrev verdict_by : (accepted equal : Bool) → ℕ
verdict_by true true = same
verdict_by true false = differs
verdict_by false equal = neither

module _ (c : Result) (e : List ℕ) (x : c.expected ≡ some e) where
  abbrev equal : Bool
  equal = same_bytes (digest_of sha256 c.stream) e

  verdict-by : verdict_of c ≡ verdict_by (is_accepted c) equal
  unfolding verdict_of
  verdict-by = ap (λ (o : Option (List ℕ)). if is_accepted c then compared o (digest_of sha256 c.stream) else neither) x ∙ go (is_accepted c) equal
    where
      go : (a s : Bool) → (if a then (if s then same else differs) else neither) ≡ verdict_by a s
      go true true = refl
      go true false = refl
      go false s = refl

  pub says : Says c e
  says = go (is_accepted c) equal refl refl
    where
      go : (a s : Bool) → is_accepted c ≡ a → equal ≡ s → Says c e
      go true true p q =
          let v : verdict_of c ≡ same = verdict-by ∙ ap₂ verdict_by p q in
          record {
            says_same = (λ w. (p, same_bytes_lem _ e q), λ w. v);
            says-differs = (λ w. absurd (omega (arith, v, w)), λ w. absurd (w.1 (same_bytes_lem _ e q)));
            says-neither = (λ w. absurd (omega (arith, v, w)), λ w. absurd (true≢false (sym p ∙ w)));
          }
      go true false p q =
          let v : verdict_of c ≡ differs = verdict-by ∙ ap₂ verdict_by p q in
          record {
            says_same = (λ w. absurd (omega (arith, v, w)), λ w. absurd (differ _ e q w.1));
            says-differs = (λ w. (p, differ _ e q), λ w. v);
            says-neither = (λ w. absurd (omega (arith, v, w)), λ w. absurd (true≢false (sym p ∙ w)));
          }
      go false s p q =
          let v : verdict_of c ≡ neither = verdict-by ∙ ap₂ verdict_by p q in
          record {
            says_same = (λ w. absurd (omega (arith, v, w)), λ w. absurd (false≢true (sym p ∙ w.0)));
            says-differs = (λ w. absurd (omega (arith, v, w)), λ w. absurd (false≢true (sym p ∙ w.0)));
            says-neither = (λ w. p, λ w. v);
          }
