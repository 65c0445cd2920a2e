-- The listing of a feed: a line for each record, with its mark and its fields in decimal, and then the fault's line.
use Rattle.std.specs.Prelude.{◌≡◌, ℕ, List, [], ◌∷◌, ◌++◌, Some, None, codes, decimal, Option}
use Rattle.calls.specs.declared.fields.Line.{Line}
use Rattle.calls.specs.declared.fields.Call.{Call}
use Rattle.calls.specs.declared.fields.Call.TheVariants.{BeginMonth, OpenAccount, MoveAccount, SetGasCost, SetPrice, BeginDay, Nominate, EndDay, Reallocate, Read, Settle, Close, Post}
use Rattle.calls.specs.Limits.{named_lines}
use Rattle.feed.specs.declared.fault.Fault.{Fault}
use Rattle.feed.specs.Marks.{mark_mb, mark_ac, mark_mv, mark_gc, mark_pr, mark_bd, mark_nm, mark_ed, mark_rl, mark_mr, mark_sd, mark_cm, mark_ps}
use Rattle.feed.specs.Faults.{fault_text}
use Rattle.feed.specs.Cuts.{Cuts}

abbrev pub mark_of : Call → List ℕ
mark_of (BeginMonth c) = mark_mb
mark_of (OpenAccount c) = mark_ac
mark_of (MoveAccount c) = mark_mv
mark_of (SetGasCost c) = mark_gc
mark_of (SetPrice c) = mark_pr
mark_of (BeginDay c) = mark_bd
mark_of (Nominate c) = mark_nm
mark_of (EndDay c) = mark_ed
mark_of (Reallocate c) = mark_rl
mark_of (Read c) = mark_mr
mark_of (Settle c) = mark_sd
mark_of (Close c) = mark_cm
mark_of (Post c) = mark_ps

abbrev pub line_figures : Line → List ℕ
line_figures l = l.account ∷ l.pipeline ∷ l.therms ∷ []

abbrev pub lines_figures : List Line → List ℕ
lines_figures [] = []
lines_figures (l ∷ ls) = line_figures l ++ lines_figures ls

-- the fields, in the order of the record
abbrev pub figures_of : Call → List ℕ
figures_of (BeginMonth c) = c.year ∷ c.month ∷ c.loss ∷ []
figures_of (OpenAccount c) = c.account ∷ c.supplier ∷ c.capacity ∷ c.storage ∷ []
figures_of (MoveAccount c) = c.account ∷ c.supplier ∷ []
figures_of (SetGasCost c) = c.gas_cost ∷ []
figures_of (SetPrice c) = c.day ∷ c.index ∷ c.market ∷ []
figures_of (BeginDay c) = c.day ∷ c.kind ∷ []
figures_of (Nominate c) = c.line.account ∷ c.line.pipeline ∷ c.line.therms ∷ c.minute ∷ []
figures_of (EndDay c) = []
figures_of (Reallocate c) = (c.supplier ∷ c.minute ∷ c.count ∷ []) ++ lines_figures (named_lines c)
figures_of (Read c) = c.account ∷ c.therms ∷ []
figures_of (Settle c) = []
figures_of (Close c) = []
figures_of (Post c) = c.day ∷ c.max_injection ∷ c.max_withdrawal ∷ []

-- a space before each
abbrev pub figures_text : List ℕ → List ℕ
figures_text [] = []
figures_text (n ∷ ns) = (codes " " ++ decimal n) ++ figures_text ns

abbrev pub call_text : Call → List ℕ
call_text c = mark_of c ++ (figures_text (figures_of c) ++ codes "\n")

abbrev pub calls_text : List Call → List ℕ
calls_text [] = []
calls_text (c ∷ cs) = call_text c ++ calls_text cs

abbrev pub ending_text : Option Fault → List ℕ
ending_text None = []
ending_text (Some f) = fault_text f ++ codes "\n"

-- the text is that of the records that the feed is cut into
pub record Listed (feed text : List ℕ) : Type 0 where
  pub calls : List Call
  pub fault : Option Fault
  pub cut : Cuts 1 0 feed calls fault
  pub text_is : text ≡ calls_text calls ++ ending_text fault
