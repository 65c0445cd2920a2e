-- An answer that is there exactly when a test holds.
use Rattle.std.specs.Prelude.{Bool, cond, Some, None, Option}

abbrev pub when : {A : Type 0} → Bool → A → Option A
when b x = cond b (Some x) None
