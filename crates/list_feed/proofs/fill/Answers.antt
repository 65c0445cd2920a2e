use Rattle.std.proofs.Common.{◌≡◌, ℕ, ◌+◌, ◌-◌, ◌≤◌, List, ◌++◌, rules, length, take, sym, ap, ◌∙◌, subst}
use Rattle.std.proofs.Math.Seq.{take-append-add}
use Rattle.std.proofs.lemmas.List.{length-take-le, take-append-le}
use Rattle.std.specs.Io.KnownBytes.{Consumes}
use Rattle.std.proofs.KnownBytes.{Consumes-trans}
use borrow.Rule.Slice.PartMut.{put_mid, post_of}
use Rattle.list_feed.proofs.fill.Goals as goal

-- bytes put behind those of before come next
more : (k room n : ℕ) (before read : List ℕ) → k ≤ length before → n ≤ length read → take k before ++ take n read ≡ take (k + n) (put_mid k room before read)
more k room n before read within fits =
    let front = take k before in
    let behind = read ++ post_of k room before in
    sym (ap (λ m. take (m + n) (front ++ behind)) (sym (length-take-le k before within)) ∙ take-append-add front behind n
    ∙ ap (λ ys. front ++ ys) (take-append-le n read (post_of k room before) fits))

pub loop-count-preserved : goal.loop-count-preserved
loop-count-preserved g c =
    let k = c.loop-count.count in
    let places = c.loop-count.places in
    let kept = c.loop-count.invariant in
    let longer = more k (length places - k) c.in_ok-got.got places c.read.new.buf kept.0 c.in_ok-got.ensures.bound.0 in
    (search rules, search rules, subst (Consumes _ _) longer (Consumes-trans _ _ _ _ _ kept.2 c.in_ok-got.ensures.bytes.0))
