-- The checks of `end_at` are the first of `element_at` and of `item_at`, and where they find no end the header's 8 bytes lie in the extent.
-- Assumes nothing.
use Rattle.std.proofs.Common.{◌≡◌, refl, sym, ap, ◌∙◌, ℕ, ◌+◌, ◌-◌, ◌≤◌, Bool, true, false, List, length, if◌then◌else◌}
use Rattle.std.specs.Prelude.{Option, Some, None, Result, Ok, Err}
use mathlib.Core.Bool.{true≢false}
use lib.Dec.{ltb}
use borrow.Author.Tests.{ltb-false}
use Rattle.answer.specs.declared.Answer.{Answer}
use Rattle.dataset.specs.Header.{fault_at, outside, ends_at, closed_by}
use Rattle.dataset.specs.Inner.Header.{end_at}
use Rattle.dataset.proofs.Laws.Header.Checks.{inside-stop, header-inside}

module _ (d : List ℕ) (delimiter : ℕ) (delimited : Bool) (stop at : ℕ) where
  -- ---- in either place, by what a refusal and an end are there, and by what the checks behind them give, `rest`
  module _ {A : Type 0} (refused : Answer → A) (ends : ℕ → A) (rest : A) where
    abbrev checked : A
    checked =
        if outside d stop at then refused (fault_at 2 at) else
        if ends_at delimited stop at then ends at else
        if ltb (stop - at) 8 then refused (fault_at 2 at) else
        if closed_by d delimiter delimited at then ends (at + 8) else
        rest

    abbrev by_end : Result (Option ℕ) Answer → A
    by_end (Err a) = refused a
    by_end (Ok (Some next)) = ends next
    by_end (Ok None) = rest

    by-end : by_end (end_at d delimiter delimited stop at) ≡ checked
    unfolding end_at
    by-end = go (outside d stop at) (ends_at delimited stop at) (ltb (stop - at) 8) (closed_by d delimiter delimited at)
      where
        go : (a b c e : Bool)
            → by_end (if a then Err (fault_at 2 at) else if b then Ok (Some at) else if c then Err (fault_at 2 at) else if e then Ok (Some (at + 8)) else Ok None)
            ≡ (if a then refused (fault_at 2 at) else if b then ends at else if c then refused (fault_at 2 at) else if e then ends (at + 8) else rest)
        go true b c e = refl
        go false true c e = refl
        go false false true e = refl
        go false false false true = refl
        go false false false false = refl

    module _ (r : Result (Option ℕ) Answer) (e : r ≡ end_at d delimiter delimited stop at) where
      pub is-refused : (a : Answer) → r ≡ Err a → refused a ≡ checked
      is-refused a q = ap by_end (sym q ∙ e) ∙ by-end

      pub ends-here : (o : Option ℕ) (next : ℕ) → r ≡ Ok o → o ≡ Some next → ends next ≡ checked
      ends-here o next q h = ap by_end (sym (q ∙ ap (λ p. Ok p) h) ∙ e) ∙ by-end

      pub goes-on : (o : Option ℕ) → r ≡ Ok o → o ≡ None → (z : A) → z ≡ rest → z ≡ checked
      goes-on o q h z w = w ∙ ap by_end (sym (q ∙ ap (λ p. Ok p) h) ∙ e) ∙ by-end

  -- ---- no end
  pub record HeaderLies : Type 0 where
    pub inside : at + 8 ≤ stop
    pub small : stop ≤ length d

  pub header-lies : (r : Result (Option ℕ) Answer) (o : Option ℕ) → r ≡ end_at d delimiter delimited stop at → r ≡ Ok o → o ≡ None → HeaderLies
  unfolding end_at
  header-lies r o e q h = go (outside d stop at) refl (ends_at delimited stop at) (ltb (stop - at) 8) refl (sym (q ∙ ap (λ p. Ok p) h) ∙ e)
    where
      go : (a : Bool) → outside d stop at ≡ a → (b c : Bool) → ltb (stop - at) 8 ≡ c
          → Ok None
          ≡ (if a then Err (fault_at 2 at) else if b then Ok (Some at) else if c then Err (fault_at 2 at) else if closed_by d delimiter delimited at then Ok (Some (at + 8)) else Ok None)
          → HeaderLies
      go true s b c t k = absurd (true≢false (cc))
      go false s true c t k = absurd (true≢false (cc))
      go false s false true t k = absurd (true≢false (cc))
      go false s false false t k =
          let l = ltb-false (stop - at) 8 t in
          record { inside = header-inside d stop at _ refl s l; small = inside-stop d stop at _ refl s }
