-- The VRs, and the form of a VR's header: RULES, 2.6 and 2.7. Assumes nothing.
use Rattle.std.specs.Prelude.{ℕ, Bool, false, ◌||◌, List, [], ◌∷◌, eqb, if◌then◌else◌}
use Rattle.dataset.specs.Bytes.{vr}
use Rattle.dataset.specs.declared.vr.Form.{Form}
use Rattle.dataset.specs.declared.vr.Form.TheVariants.{Short, Long, Neither}

-- the letters' codes (ISO 646)
abbrev A : ℕ
A = 0x41

abbrev B : ℕ
B = 0x42

abbrev C : ℕ
C = 0x43

abbrev D : ℕ
D = 0x44

abbrev E : ℕ
E = 0x45

abbrev F : ℕ
F = 0x46

abbrev H : ℕ
H = 0x48

abbrev I : ℕ
I = 0x49

abbrev L : ℕ
L = 0x4C

abbrev M : ℕ
M = 0x4D

abbrev N : ℕ
N = 0x4E

abbrev O : ℕ
O = 0x4F

abbrev P : ℕ
P = 0x50

abbrev Q : ℕ
Q = 0x51

abbrev S : ℕ
S = 0x53

abbrev T : ℕ
T = 0x54

abbrev U : ℕ
U = 0x55

abbrev W : ℕ
W = 0x57

-- 2.6: "Short form, with a length of two bytes: AE AS AT CS DA DS DT FL FD IS LO LT PN SH SL SS ST TM UI UL US."
abbrev pub short_form : List ℕ
short_form =
    vr A E ∷ vr A S ∷ vr A T ∷ vr C S ∷ vr D A ∷ vr D S ∷ vr D T ∷ vr F L ∷ vr F D ∷ vr I S ∷ vr L O ∷ vr L T ∷ vr P N
    ∷ vr S H ∷ vr S L ∷ vr S S ∷ vr S T ∷ vr T M ∷ vr U I ∷ vr U L ∷ vr U S ∷ []

-- 2.7: "Long form, with two reserved bytes, both zero, and then a length of four bytes: OB OW OF SQ UT UN."
abbrev pub long_form : List ℕ
long_form = vr O B ∷ vr O W ∷ vr O F ∷ vr S Q ∷ vr U T ∷ vr U N ∷ []

-- the VRs that the rules name
abbrev pub AT : ℕ
AT = vr A T

abbrev pub CS : ℕ
CS = vr C S

abbrev pub OB : ℕ
OB = vr O B

abbrev pub SQ : ℕ
SQ = vr S Q

abbrev pub UI : ℕ
UI = vr U I

abbrev pub UN : ℕ
UN = vr U N

abbrev pub US : ℕ
US = vr U S

-- v is in the list
unfoldable pub one_of : ℕ → List ℕ → Bool
one_of v [] = false
one_of v (x ∷ xs) = eqb v x || one_of v xs

-- the form of a VR's header; or neither, where the VR is in neither list
unfoldable pub form_of : ℕ → Form
form_of v = if one_of v short_form then Short else if one_of v long_form then Long else Neither
