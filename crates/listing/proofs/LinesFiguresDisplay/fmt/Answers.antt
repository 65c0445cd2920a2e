use Rattle.std.proofs.Common.{rules}
use Rattle.std.proofs.Output.{has_written_append, has_written_of_eq}
use Rattle.calls.specs.Limits.{blank_line}
use Rattle.listing.proofs.Joins.{lines_more}
use Rattle.listing.proofs.LinesFiguresDisplay.fmt.Goals as goal

pub loop-line-preserved : goal.loop-line-preserved
loop-line-preserved g c p =
    has_written_of_eq _ _ _ _ _ (lines_more c.args.self.now.0.now c.loop-line.line-index blank_line c.loop-line-test.true)
    (has_written_append _ _ _ _ _ _ (c.loop-line.invariant p) (search rules))
