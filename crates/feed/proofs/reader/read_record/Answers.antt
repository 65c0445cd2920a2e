use Rattle.std.proofs.Common.{rules}
use Rattle.feed.proofs.Parts.{by_mark}
use Rattle.feed.proofs.reader.read_record.Goals as goal

pub returns-in-77-clause-value : goal.returns-in-77-clause-value
returns-in-77-clause-value c = by_mark c.args.feed.now 77 66 _ (search rules) (search rules) (search rules) c.read_kind.ensures.value

pub returns-in-77-2-clause-value : goal.returns-in-77-2-clause-value
returns-in-77-2-clause-value c = by_mark c.args.feed.now 77 86 _ (search rules) (search rules) (search rules) c.read_kind-in-77-2.ensures.value

pub returns-in-77-3-clause-value : goal.returns-in-77-3-clause-value
returns-in-77-3-clause-value c = by_mark c.args.feed.now 77 82 _ (search rules) (search rules) (search rules) c.read_kind-in-77-3.ensures.value

pub returns-in-65-clause-value : goal.returns-in-65-clause-value
returns-in-65-clause-value c = by_mark c.args.feed.now 65 67 _ (search rules) (search rules) (search rules) c.read_kind-in-65.ensures.value

pub returns-in-71-clause-value : goal.returns-in-71-clause-value
returns-in-71-clause-value c = by_mark c.args.feed.now 71 67 _ (search rules) (search rules) (search rules) c.read_kind-in-71.ensures.value

pub returns-in-80-clause-value : goal.returns-in-80-clause-value
returns-in-80-clause-value c = by_mark c.args.feed.now 80 82 _ (search rules) (search rules) (search rules) c.read_kind-in-80.ensures.value

pub returns-in-80-2-clause-value : goal.returns-in-80-2-clause-value
returns-in-80-2-clause-value c = by_mark c.args.feed.now 80 83 _ (search rules) (search rules) (search rules) c.read_kind-in-80-2.ensures.value

pub returns-in-66-clause-value : goal.returns-in-66-clause-value
returns-in-66-clause-value c = by_mark c.args.feed.now 66 68 _ (search rules) (search rules) (search rules) c.read_kind-in-66.ensures.value

pub returns-in-78-clause-value : goal.returns-in-78-clause-value
returns-in-78-clause-value c = by_mark c.args.feed.now 78 77 _ (search rules) (search rules) (search rules) c.read_kind-in-78.ensures.value

pub returns-in-82-clause-value : goal.returns-in-82-clause-value
returns-in-82-clause-value c = by_mark c.args.feed.now 82 76 _ (search rules) (search rules) (search rules) c.read_kind-in-82.ensures.value
