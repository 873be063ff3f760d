-- The running digest, over any algorithm: docs/RULES.md, 10.2 to 10.5, and 25. Running digest (10.2) and possible (10.3) are its terms.
-- `Running`, `Fed` and `Finished` are the structs of src/running.rt. 10.2: "A running digest is eight words, at most 63 bytes that wait,
-- and the total of the bytes fed." The waiting bytes stand in an array of 64, with their count.
-- An array of the code is the list of its numbers; the definitions hold for lists of any length.
-- Assumes nothing.
use Rattle.std.specs.Prelude.{ℕ, ◌+◌, ◌-◌, ◌%◌, Bool, ◌&&◌, List, [], ◌++◌, length, take, drop, replicate, ◌==◌, nat_le, if◌then◌else◌}
use Rattle.slices.specs.Lists.{all_are}
use Rattle.answer.specs.Answer.{accepted, refused}
use Rattle.digest.specs.Padding.{word_bytes, padding}
use Rattle.digest.specs.Message.{Algorithm, after_blocks, rest, limit}
use Rattle.digest.specs.declared.running.Running.{Running}
use Rattle.digest.specs.declared.running.Fed.{Fed}
use Rattle.digest.specs.declared.running.Finished.{Finished}

-- the bytes that wait for the rest of their block
abbrev pub waiting_bytes : Running → List ℕ
waiting_bytes s = take s.count s.waiting

-- 10.3: "It is possible when the count of waiting bytes is what the total leaves modulo 64, and the rest of the room for them is zero."
unfoldable pub possible : Running → Bool
possible s = s.count == s.total % 64 && all_are 0 (drop s.count s.waiting)

-- neither condition of 25 holds: it is possible, and its total is within the limit after n bytes more
unfoldable pub accepts : Running → ℕ → Bool
accepts s n = possible s && nat_le (s.total + n) limit

-- waiting bytes in their array of 64, whose room past them is zero
abbrev pub zero_filled : List ℕ → List ℕ
zero_filled w = w ++ replicate (64 - length w) 0

-- the running digest of no bytes
unfoldable pub start : Algorithm → Running
start a = record { words = a.start; waiting = zero_filled []; count = 0; total = 0 }

-- the running digest after the bytes m: the waiting bytes and m are taken in whole blocks, and the rest waits
unfoldable pub fed : Algorithm → Running → List ℕ → Running
fed a s m =
    let bytes = waiting_bytes s ++ m in
    record {
      words = after_blocks a.block s.words bytes;
      waiting = zero_filled (rest bytes);
      count = length (rest bytes);
      total = s.total + length m;
    }

-- the digest of all bytes so far: the waiting bytes and the padding of the total are taken in whole blocks
unfoldable pub finished : Algorithm → Running → List ℕ
finished a s = word_bytes a.order a.size (after_blocks a.block s.words (waiting_bytes s ++ padding a.order s.total))

-- 10.4: "from a running digest it makes the next and returns it. Refused, it returns the old one unchanged." The answer's length is 0
-- (docs/DECISIONS.md, A3).
unfoldable pub feeding : Algorithm → Running → List ℕ → Fed
feeding a s m =
    if accepts s (length m) then record { answer = accepted 0; running = fed a s m } else
    record { answer = refused 25 0; running = s }

-- 10.5: "Finishing one that is not possible gives 25 and, as the digest, 32 bytes of zero", as many as the digest has, and so does finishing
-- one whose total is past the limit (docs/DECISIONS.md, D2). The answer's length is 0 (A3). The running digest comes back as it was (D4).
unfoldable pub finishing : Algorithm → Running → Finished
finishing a s =
    if accepts s 0 then record { answer = accepted 0; digest = finished a s; running = s } else
    record { answer = refused 25 0; digest = replicate a.size 0; running = s }
