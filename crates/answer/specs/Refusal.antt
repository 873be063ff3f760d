-- The numbers of the refusals: docs/RULES.md, 9.3. `Refusal` is the enum of src/refusal.rt.
-- Assumes nothing.
use Rattle.std.specs.Prelude.{ℕ}
use Rattle.answer.specs.declared.refusal.Refusal.{Refusal}
use Rattle.answer.specs.declared.refusal.Refusal.TheVariants as refusal

-- 9.3: "The numbers; 17 was removed and is not used again"
abbrev pub number_of : Refusal → ℕ
number_of refusal.TooLarge = 1
number_of refusal.TooFewBytes = 2
number_of refusal.MisplacedTag = 3
number_of refusal.TagOrder = 4
number_of refusal.UnknownVr = 5
number_of refusal.ReservedBytes = 6
number_of refusal.BadLength = 7
number_of refusal.TooDeep = 8
number_of refusal.DigestLength = 9
number_of refusal.ListSize = 10
number_of refusal.ListOrder = 11
number_of refusal.BarredTag = 12
number_of refusal.MissingElement = 13
number_of refusal.IsUn = 14
number_of refusal.HoldsUn = 15
number_of refusal.OutputTooShort = 16
number_of refusal.NoSignature = 18
number_of refusal.NoMacId = 19
number_of refusal.NoParameters = 20
number_of refusal.TransferSyntax = 21
number_of refusal.UnknownAlgorithm = 22
number_of refusal.NoTagList = 23
number_of refusal.BadFrame = 24
number_of refusal.BadRunningDigest = 25
