use Rattle.std.proofs.Common.{◌≡◌, ℕ, ◌*◌, ◌≤◌, true, ap, ◌∙◌, arith}
use Rattle.std.proofs.lemmas.Bool.Decides.{nat_tests}
use Rattle.tariff.specs.declared.prices.Price.{Price}
use Rattle.tariff.specs.Prices.{can_average, average}
use Rattle.settling.proofs.Bounds.{index_total_of_month, index_sum}
use Rattle.settling.proofs.Passing.{there, value}
use Rattle.settling.proofs.prices.average_index.Goals as goal

-- so many prices can be averaged
able : (total days : ℕ) → 1 ≤ days → days ≤ 31 → total ≤ days * 1000000 → can_average total days ≡ true
able total days low last high = grind (arith, nat_tests)

pub total_of-requires : goal.total_of-requires
total_of-requires c =
    let high = index_total_of_month c.args.days c.args.prices.now c.requires.rises c.requires.of_month in
    omega (arith, index_sum c.args.prices.now)

pub unwrap-requires : goal.unwrap-requires
unwrap-requires c =
    let total = c.total_of.result in
    let high = index_total_of_month c.args.days c.args.prices.now c.requires.rises c.requires.of_month in
    let few = able total c.args.days c.requires.first c.requires.last (omega (arith, c.total_of.ensures, index_sum c.args.prices.now)) in
    there {Y = ℕ} (λ (price : Price). price.hundredths) c.average.result (can_average total c.args.days) (average total c.args.days) c.average.ensures few

pub returns : goal.returns
returns c =
    let total = c.total_of.result in
    let high = index_total_of_month c.args.days c.args.prices.now c.requires.rises c.requires.of_month in
    let few = able total c.args.days c.requires.first c.requires.last (omega (arith, c.total_of.ensures, index_sum c.args.prices.now)) in
    value {Y = ℕ} (λ (price : Price). price.hundredths) c.average.result (can_average total c.args.days) (average total c.args.days) c.average.ensures few c.unwrap.result c.unwrap.ensures
    ∙ ap (λ t. average t c.args.days) (c.total_of.ensures ∙ index_sum c.args.prices.now)
