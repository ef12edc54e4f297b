-- The numbers of ways and estimators.
use Rattle.std.specs.Prelude.{◌≡◌, ℕ, ◌+◌, ◌<◌, Result, MatchResult}
use Rattle.strips.specs.declared.denial.Denial.{Denial}
use Rattle.strips.specs.declared.denial.Denial.TheVariants.{NoSuchNumber}
use Rattle.embed.specs.declared.choice.Way.{Way}
use Rattle.embed.specs.declared.choice.Way.TheVariants.{Direct, Compiled}
use Rattle.embed.specs.declared.choice.Estimator.{Estimator}
use Rattle.embed.specs.declared.choice.Estimator.TheVariants.{Blind, Bound}

-- the number of a way
abbrev pub way_number : Way → ℕ
way_number Direct = 0
way_number Compiled = 1

-- the number of an estimator
abbrev pub estimator_number : Estimator → ℕ
estimator_number Blind = 0
estimator_number (Bound way) = 1 + way_number way

-- the result is the way of this number, or that there is none
abbrev pub ChoosesWay : ℕ → Result Way Denial → Type 0
ChoosesWay n r = MatchResult r (λ way. way_number way ≡ n) (λ d. (d ≡ NoSuchNumber) × (1 < n))

-- the result is the estimator of this number, or that there is none
abbrev pub ChoosesEstimator : ℕ → Result Estimator Denial → Type 0
ChoosesEstimator n r = MatchResult r (λ estimator. estimator_number estimator ≡ n) (λ d. (d ≡ NoSuchNumber) × (2 < n))
