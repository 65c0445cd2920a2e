use Rattle.std.proofs.Common.{◌≡◌, ℕ, ◌<◌, ◌≤◌, [], length, get_or}
use Rattle.calls.specs.Limits.{blank_line}
use Rattle.feed.specs.Fields.{line_at}
use Rattle.feed.proofs.lines.read_lines.Given as goal

-- the places so far hold the lines of their nine bytes, and the others are blank
abbrev pub invariant-loop-i : goal.invariant-loop-i
invariant-loop-i l =
    (length l.lines ≡ 200)
    × ((k : ℕ) → k < l.i → get_or l.lines k blank_line ≡ line_at (get_or l.nine-items k []) 0)
    × ((k : ℕ) → l.i ≤ k → get_or l.lines k blank_line ≡ blank_line)
