-- Options that always hold a value: what an `Option` shows of one, and the lenders of its value.
use Rattle.std.specs.Prelude.{Bool, true, ◌&&◌, Option, None, Some, if◌then◌else◌}
use Rattle.std.specs.Option.{option_eq}
use Rattle.ctutils.specs.declared.ct_option.CtOption.{CtOption}

-- some of a value
abbrev pub some_of : {T : Type 0} → T → CtOption T
some_of x = record { value = x; is_some = true }

-- the same value under one condition more
abbrev pub filter_by : {T : Type 0} → CtOption T → Bool → CtOption T
filter_by o condition = record { value = o.value; is_some = o.is_some && condition }

-- the value of a some, and nothing of a none
abbrev pub into_option : {T : Type 0} → CtOption T → Option T
into_option o = if o.is_some then Some o.value else None

-- both are none, or both are some and their values are equal
abbrev pub ct_option_eq : {T : Type 0} → (T → T → Bool) → CtOption T → CtOption T → Bool
ct_option_eq eq a b = option_eq eq (into_option a) (into_option b)
