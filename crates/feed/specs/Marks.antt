-- The two bytes that begin a record of each kind.
use Rattle.std.specs.Prelude.{ℕ, List, codes}

abbrev pub mark_mb : List ℕ
mark_mb = codes "MB"

abbrev pub mark_ac : List ℕ
mark_ac = codes "AC"

abbrev pub mark_mv : List ℕ
mark_mv = codes "MV"

abbrev pub mark_gc : List ℕ
mark_gc = codes "GC"

abbrev pub mark_pr : List ℕ
mark_pr = codes "PR"

abbrev pub mark_bd : List ℕ
mark_bd = codes "BD"

abbrev pub mark_nm : List ℕ
mark_nm = codes "NM"

abbrev pub mark_ed : List ℕ
mark_ed = codes "ED"

abbrev pub mark_rl : List ℕ
mark_rl = codes "RL"

abbrev pub mark_mr : List ℕ
mark_mr = codes "MR"

abbrev pub mark_sd : List ℕ
mark_sd = codes "SD"

abbrev pub mark_cm : List ℕ
mark_cm = codes "CM"

abbrev pub mark_ps : List ℕ
mark_ps = codes "PS"
