-- The gas count: fed each call and whether it was refused, and nothing of the book.
use Rattle.std.specs.Prelude.{ℕ, ◌+◌, Bool, true, false, cond, ◌&&◌, List, [], ◌∷◌, Ok, Err, Result, ◌==◌}
use Rattle.tariff.specs.Loss.{after_loss}
use Rattle.calls.specs.declared.fields.Line.{Line}
use Rattle.calls.specs.declared.fields.Call.{Call}
use Rattle.calls.specs.declared.fields.Call.TheVariants.{BeginMonth, OpenAccount, MoveAccount, SetGasCost, SetPrice, BeginDay, Nominate, EndDay, Reallocate, Read, Settle, Close, Post}
use Rattle.calls.specs.declared.refusal.Refusal.{Refusal}
use Rattle.calls.specs.Limits.{named_lines}
use Rattle.ledger.specs.Sums.{below}
use Rattle.ledger.specs.Runs.{History}

pub record Count : Type 0 where
  pub loss : ℕ
  -- by account number
  pub opened : ℕ → Bool
  pub supplier : ℕ → ℕ
  pub opening : ℕ → ℕ
  pub pipeline : ℕ → ℕ
  pub used : ℕ → ℕ
  -- by account number and pipeline; 0 where there is no line
  pub lines : ℕ → ℕ → ℕ
  pub reading : ℕ → ℕ
  -- by supplier and pipeline, what stood nominated when the gas day ended
  pub noted : ℕ → ℕ → ℕ

abbrev pub set : {A : Type 0} → (ℕ → A) → ℕ → A → ℕ → A
set f k v n = cond (n == k) v (f n)

abbrev pub set_line : (ℕ → ℕ → ℕ) → Line → ℕ → ℕ → ℕ
set_line f l n p = cond (n == l.account && p == l.pipeline) l.therms (f n p)

abbrev pub set_lines : (ℕ → ℕ → ℕ) → List Line → ℕ → ℕ → ℕ
set_lines f [] = f
set_lines f (l ∷ ls) = set_lines (set_line f l) ls

-- an account's lines on all pipelines, after loss
abbrev pub delivered : Count → ℕ → ℕ
delivered k n = after_loss k.loss (below 9 (k.lines n))

-- a supplier's total on a pipeline, over every account number
abbrev pub counted : (ℕ → ℕ) → (ℕ → ℕ → ℕ) → ℕ → ℕ → ℕ
counted supplier lines s p = below 1000000000 (λ n. cond (supplier n == s) (lines n p) 0)

abbrev pub fed : Call → Count → Count
fed (BeginMonth c) k = record {
  loss = c.loss;
  opened = k.opened;
  supplier = k.supplier;
  opening = k.opening;
  pipeline = k.pipeline;
  used = k.used;
  lines = k.lines;
  reading = k.reading;
  noted = k.noted;
}
fed (OpenAccount c) k = record {
  loss = k.loss;
  opened = set k.opened c.account true;
  supplier = set k.supplier c.account c.supplier;
  opening = set k.opening c.account c.storage;
  pipeline = k.pipeline;
  used = k.used;
  lines = k.lines;
  reading = k.reading;
  noted = k.noted;
}
fed (MoveAccount c) k = record {
  loss = k.loss;
  opened = k.opened;
  supplier = set k.supplier c.account c.supplier;
  opening = k.opening;
  pipeline = k.pipeline;
  used = k.used;
  lines = k.lines;
  reading = k.reading;
  noted = k.noted;
}
fed (SetGasCost c) k = k
fed (SetPrice c) k = k
fed (BeginDay c) k = k
fed (Nominate c) k = record {
  loss = k.loss;
  opened = k.opened;
  supplier = k.supplier;
  opening = k.opening;
  pipeline = k.pipeline;
  used = k.used;
  lines = set_line k.lines c.line;
  reading = k.reading;
  noted = k.noted;
}
fed (EndDay c) k = record {
  loss = k.loss;
  opened = k.opened;
  supplier = k.supplier;
  opening = k.opening;
  pipeline = k.pipeline;
  used = k.used;
  lines = k.lines;
  reading = k.reading;
  noted = counted k.supplier k.lines;
}
fed (Reallocate c) k = record {
  loss = k.loss;
  opened = k.opened;
  supplier = k.supplier;
  opening = k.opening;
  pipeline = k.pipeline;
  used = k.used;
  lines = set_lines k.lines (named_lines c);
  reading = k.reading;
  noted = k.noted;
}
fed (Read c) k = record {
  loss = k.loss;
  opened = k.opened;
  supplier = k.supplier;
  opening = k.opening;
  pipeline = k.pipeline;
  used = k.used;
  lines = k.lines;
  reading = set k.reading c.account c.therms;
  noted = k.noted;
}
fed (Settle c) k = record {
  loss = k.loss;
  opened = k.opened;
  supplier = k.supplier;
  opening = k.opening;
  pipeline = λ n. k.pipeline n + cond (k.opened n) (delivered k n) 0;
  used = λ n. k.used n + cond (k.opened n) (k.reading n) 0;
  lines = λ _ _. 0;
  reading = λ _. 0;
  noted = k.noted;
}
fed (Close c) k = k
fed (Post c) k = k

abbrev pub nothing : Count
nothing = record {
  loss = 0;
  opened = λ _. false;
  supplier = λ _. 0;
  opening = λ _. 0;
  pipeline = λ _. 0;
  used = λ _. 0;
  lines = λ _ _. 0;
  reading = λ _. 0;
  noted = λ _ _. 0;
}

-- a refused call changes nothing
abbrev pub fed_by : Result ℕ Refusal → Call → Count → Count
fed_by (Ok rows) c k = fed c k
fed_by (Err r) c k = k

abbrev pub count : History → Count
count [] = nothing
count (m ∷ h) = fed_by m.returned m.call (count h)
