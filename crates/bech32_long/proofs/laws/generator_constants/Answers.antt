use Rattle.std.proofs.Common.{refl}
use Rattle.bech32_long.specs.Field.{product, product_of}
use Rattle.bech32_long.specs.Groups.{number_of}
use Rattle.bech32_long.proofs.laws.generator_constants.Goals as goal

pub returns-clause-times_1 : goal.returns-clause-times_1
unfolding number_of product product_of
returns-clause-times_1 c = refl

pub returns-clause-times_2 : goal.returns-clause-times_2
unfolding number_of product product_of
returns-clause-times_2 c = refl

pub returns-clause-times_4 : goal.returns-clause-times_4
unfolding number_of product product_of
returns-clause-times_4 c = refl

pub returns-clause-times_8 : goal.returns-clause-times_8
unfolding number_of product product_of
returns-clause-times_8 c = refl

pub returns-clause-times_16 : goal.returns-clause-times_16
unfolding number_of product product_of
returns-clause-times_16 c = refl
