-- For inner contracts; no part of what a reader has to believe: what the walk for two tags makes of one element more.
-- Assumes nothing.
use Rattle.std.specs.Prelude.{ℕ, Bool, true, false, not, eqb, if◌then◌else◌}
use Rattle.dataset.specs.Vr.{SQ}
use Rattle.dataset.specs.declared.extent.Extent.{Extent}
use Rattle.dataset.specs.declared.seek.Place.{Place}
use Rattle.dataset.specs.declared.seek.Place.TheVariants as place

abbrev pub is_there : Place → Bool
is_there place.Absent = false
is_there (place.Value vr start end) = true
is_there (place.Items x) = true
is_there place.Fragments = true

-- An element that the reader handed on, from a data set in x. A delimiter closed it exactly where what follows it is not at its value's end; then
-- its inside lies in what is left of x.
unfoldable pub place_by : Extent → (vr start end next : ℕ) → Place
place_by x vr start end next =
    if not (eqb vr SQ) then (if not (eqb end next) then place.Fragments else place.Value vr start end) else
    if not (eqb end next) then place.Items (record { delimited = true; left = x.left; stop = x.stop; from = start }) else
    place.Items (record { delimited = false; left = x.left; stop = end; from = start })

-- after one element more, of the tag `here`, which lies at p
unfoldable pub or_here : Place → (tag here : ℕ) → Place → Place
or_here before tag here p = if not (eqb here tag) then before else if is_there before then before else p
