-- The statements of specs/Theorems.antt. Assumes nothing.
use Rattle.mac_frame.specs.Theorems.{Theorems}
use Rattle.mac_frame.proofs.Laws.Frame.FrameLayout.{frames-read, only-frames}

pub theorems : Theorems
theorems = record { frames-read = frames-read; only-frames = only-frames }
