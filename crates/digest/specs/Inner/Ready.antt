-- For inner contracts; no part of what a reader has to believe. Assumes nothing.
use Rattle.std.specs.Prelude.{◌≡◌, ℕ, ◌+◌, ◌%◌, ◌≤◌, true, drop}
use Rattle.digest.specs.Message.{limit}
use Rattle.slices.specs.Lists.{all_are}
use Rattle.digest.specs.declared.running.Running.{Running}

-- `accepts s n` as facts
pub record Ready (s : Running) (n : ℕ) : Type 0 where
  pub counted : s.count ≡ s.total % 64
  pub empty : all_are 0 (drop s.count s.waiting) ≡ true
  pub within : s.total + n ≤ limit
