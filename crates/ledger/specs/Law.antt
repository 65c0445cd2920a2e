-- The law over runs, whole.
use Rattle.ledger.specs.State.{State}
use Rattle.ledger.specs.Runs.{History, Leads}
use Rattle.ledger.specs.Claim.{Balanced, StraightAllAlong}
use Rattle.ledger.specs.Safety.{Safe, ClosePriced}

-- this history leads to this state, and the law holds of it
pub record Upheld (h : History) (s : State) : Type 0 where
  pub run : Leads h s
  -- where the run stands
  pub balanced : Balanced h s
  -- at every accepted call of the run
  pub straight : (l : Leads h s) → StraightAllAlong l
  pub safe : Safe s
  pub close_priced : ClosePriced s
