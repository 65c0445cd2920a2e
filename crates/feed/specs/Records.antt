-- The records of a feed: what the first of them is, and how many bytes it takes.
use Rattle.std.specs.Prelude.{ℕ, ◌+◌, Bool, cond, ◌&&◌, List, [], ◌∷◌, length, take, drop, Some, None, Ok, Err, Option, Result, ◌==◌, nat_lt, slice_index}
use Rattle.std.specs.Option.{option_map}
use Rattle.tariff.specs.Options.{when}
use Rattle.calls.specs.declared.fields.Call.{Call}
use Rattle.calls.specs.declared.fields.Call.TheVariants.{BeginMonth, OpenAccount, MoveAccount, SetGasCost, SetPrice, BeginDay, Nominate, EndDay, Reallocate, Read, Settle, Close, Post}
use Rattle.calls.specs.Limits.{month_begin_within, opening_within, move_within, gas_cost_within, price_within, day_begin_within, nomination_within, day_end_within, reallocation_within, reading_within, settle_within, closing_within, posting_within}
use Rattle.feed.specs.declared.fault.FeedRefusal.{FeedRefusal}
use Rattle.feed.specs.declared.fault.FeedRefusal.TheVariants.{Cut, UnknownMark, OutsideLimits}
use Rattle.feed.specs.Marks.{mark_mb, mark_ac, mark_mv, mark_gc, mark_pr, mark_bd, mark_nm, mark_ed, mark_rl, mark_mr, mark_sd, mark_cm, mark_ps}
use Rattle.feed.specs.Fields.{month_begin_of, opening_of, move_of, gas_cost_of, price_of, day_begin_of, nomination_of, day_end_of, reallocation_of, reading_of, settle_of, closing_of, posting_of, lines_tail}

-- a kind of record: its mark, the bytes of its head, how many follow a head, and the call that they all say; none outside the limits
pub record Form : Type 0 where
  pub mark : List ℕ
  pub head : ℕ
  pub tail : List ℕ → ℕ
  pub says : List ℕ → Option Call

abbrev pub form : {F : Type 0} → List ℕ → ℕ → (List ℕ → ℕ) → (F → Bool) → (List ℕ → F) → (F → Call) → Form
form mark head tail limits fields call = record {
  mark = mark;
  head = head;
  tail = tail;
  says = λ bs. option_map call (when (limits (fields bs)) (fields bs));
}

-- a record's bytes behind its mark are as many as its head tells
abbrev pub size : Form → List ℕ → ℕ
size f bs = f.head + f.tail (take f.head bs)

-- the call and the bytes that it took, its mark included
abbrev pub told : ℕ → Option Call → Result (Call × ℕ) FeedRefusal
told n None = Err OutsideLimits
told n (Some c) = Ok (c, n + 2)

-- what follows a mark of that kind
abbrev pub read_form : Form → List ℕ → Result (Call × ℕ) FeedRefusal
read_form f bs =
    cond (nat_lt (length bs) f.head) (Err Cut)
    (cond (nat_lt (length bs) (size f bs)) (Err Cut)
    (told (size f bs) (f.says (take (size f bs) bs))))

abbrev pub no_tail : List ℕ → ℕ
no_tail head = 0

-- every kind: mark, bytes of the head, bytes behind the head, limits, fields, call
abbrev pub forms : List Form
forms =
    form mark_mb 5 no_tail month_begin_within month_begin_of BeginMonth
    ∷ form mark_ac 14 no_tail opening_within opening_of OpenAccount
    ∷ form mark_mv 6 no_tail move_within move_of MoveAccount
    ∷ form mark_gc 4 no_tail gas_cost_within gas_cost_of SetGasCost
    ∷ form mark_pr 9 no_tail price_within price_of SetPrice
    ∷ form mark_bd 2 no_tail day_begin_within day_begin_of BeginDay
    ∷ form mark_nm 11 no_tail nomination_within nomination_of Nominate
    ∷ form mark_ed 0 no_tail day_end_within day_end_of EndDay
    ∷ form mark_rl 5 lines_tail reallocation_within reallocation_of Reallocate
    ∷ form mark_mr 8 no_tail reading_within reading_of Read
    ∷ form mark_sd 0 no_tail settle_within settle_of Settle
    ∷ form mark_cm 0 no_tail closing_within closing_of Close
    ∷ form mark_ps 5 no_tail posting_within posting_of Post
    ∷ []

abbrev pub marked : ℕ → ℕ → List ℕ → Bool
marked a b mark = a == slice_index mark 0 && b == slice_index mark 1

-- the first kind that has the two bytes for its mark reads what follows
abbrev pub read_by : List Form → ℕ → ℕ → List ℕ → Result (Call × ℕ) FeedRefusal
read_by [] a b rest = Err UnknownMark
read_by (f ∷ fs) a b rest = cond (marked a b f.mark) (read_form f rest) (read_by fs a b rest)

-- the first record of a feed, and the bytes that it takes
abbrev pub first_record : List ℕ → Result (Call × ℕ) FeedRefusal
first_record bs = cond (nat_lt (length bs) 2) (Err Cut) (read_by forms (slice_index bs 0) (slice_index bs 1) (drop 2 bs))
