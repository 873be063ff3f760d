-- A read puts its bytes behind those that were read before it.
use Rattle.std.proofs.Common.{◌≡◌, ℕ, ◌+◌, ◌-◌, ◌≤◌, List, ◌++◌, rules, length, take, sym, ap, ◌∙◌, subst, length-take-le}
use lib.Seq.{take-append-add, take-append-le}
use borrow.Rule.Slice.PartMut.{put_mid, post_of}
use Rattle.std.specs.Io.KnownBytes.{Consumes}
use Rattle.std.proofs.KnownBytes.{Consumes-trans}
use Rattle.input_bytes.proofs.read_full.Goals as goal

-- the first bytes of a list whose part from `from` on begins with what was read
behind : (from n k : ℕ) (room read : List ℕ) → from ≤ length room → n ≤ length read → take from room ++ take n read ≡ take (from + n) (put_mid from k room read)
behind from n k room read within fits =
    let front = take from room in
    let rest = read ++ post_of from k room in
    sym (ap (λ size. take (size + n) (front ++ rest)) (sym (length-take-le from room within)) ∙ take-append-add front rest n ∙ ap (λ l. front ++ l) (take-append-le n read _ fits))

pub loop-filled-preserved : goal.loop-filled-preserved
loop-filled-preserved g c =
    let was = c.loop-filled.invariant in
    let joined = behind _ c.in_ok-n.n (length c.loop-filled.room - c.loop-filled.filled) _ _ was.1 c.in_ok-n.ensures.bound.0 in
    (search rules, search rules, subst (Consumes _ _) joined (Consumes-trans _ _ _ _ _ was.2 c.in_ok-n.ensures.bytes.0))
