use Rattle.bech32_long.proofs.ReadLaws.{changed-refused}
use Rattle.bech32_long.proofs.laws.refuses_a_changed_character.Goals as goal

pub returns : goal.returns
returns c before front behind x y part bytes none_front none_behind none_x none_y differ read other more =
    changed-refused before front behind x y part bytes other more none_front none_behind none_x none_y differ read
