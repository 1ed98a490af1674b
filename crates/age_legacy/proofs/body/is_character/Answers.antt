use Rattle.std.proofs.Common.{◌≡◌, true, false, ◌∙◌, arith}
use Rattle.std.proofs.lemmas.Grind.{common_steps}
use Rattle.age_legacy.proofs.Characters.{is_ranged, ranged_character}
use Rattle.age_legacy.proofs.body.is_character.Goals as goal

pub returns-in_default : goal.returns-in_default
returns-in_default c =
    let ranged : false ≡ is_ranged c.args.byte = grind (arith, common_steps) in
    ranged ∙ ranged_character c.args.byte (omega arith)

pub returns-in_default-2 : goal.returns-in_default-2
returns-in_default-2 c =
    let ranged : false ≡ is_ranged c.args.byte = grind (arith, common_steps) in
    ranged ∙ ranged_character c.args.byte (omega arith)

pub returns-in_default-3 : goal.returns-in_default-3
returns-in_default-3 c =
    let ranged : false ≡ is_ranged c.args.byte = grind (arith, common_steps) in
    ranged ∙ ranged_character c.args.byte (omega arith)

pub returns-in_default-4 : goal.returns-in_default-4
returns-in_default-4 c =
    let ranged : false ≡ is_ranged c.args.byte = grind (arith, common_steps) in
    ranged ∙ ranged_character c.args.byte (omega arith)

pub returns-in-65-to-90 : goal.returns-in-65-to-90
returns-in-65-to-90 c =
    let ranged : true ≡ is_ranged c.args.byte = grind (arith, common_steps) in
    ranged ∙ ranged_character c.args.byte (omega arith)

pub returns-in-65-to-90-2 : goal.returns-in-65-to-90-2
returns-in-65-to-90-2 c =
    let ranged : true ≡ is_ranged c.args.byte = grind (arith, common_steps) in
    ranged ∙ ranged_character c.args.byte (omega arith)

pub returns-in-65-to-90-3 : goal.returns-in-65-to-90-3
returns-in-65-to-90-3 c =
    let ranged : true ≡ is_ranged c.args.byte = grind (arith, common_steps) in
    ranged ∙ ranged_character c.args.byte (omega arith)

pub returns-in-65-to-90-4 : goal.returns-in-65-to-90-4
returns-in-65-to-90-4 c =
    let ranged : true ≡ is_ranged c.args.byte = grind (arith, common_steps) in
    ranged ∙ ranged_character c.args.byte (omega arith)
