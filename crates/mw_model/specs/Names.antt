-- Names of entries (own).
use Rattle.std.specs.Prelude.{ℕ, ◌-◌, ◌&&◌, ◌||◌, ◌==◌, Bool, nat_le, nat_eq, List, ◌++◌, length, replicate}
use Rattle.std.specs.List.{list_all, before_first}
use lib.Pointwise.{pointwise}
use Rattle.mw_model.specs.declared.names.Name.{Name}

-- a small letter, a digit, _ or -
abbrev pub is_name_byte : ℕ → Bool
is_name_byte b = (nat_le 97 b && nat_le b 122) || (nat_le 48 b && nat_le b 57) || (b == 95) || (b == 45)

-- 1 to 32 such bytes
abbrev pub is_name : List ℕ → Bool
is_name text = nat_le 1 (length text) && nat_le (length text) 32 && list_all is_name_byte text

-- the 32 bytes of a name: those that spell it, and zeros
abbrev pub padded : List ℕ → List ℕ
padded text = text ++ replicate (32 - length text) 0

-- what stands behind a name
abbrev pub is_zero : ℕ → Bool
is_zero b = b == 0

-- the name that is spelled so
abbrev pub name_of : List ℕ → Name
name_of text = record { bytes = padded text }

-- how a name is spelled: its bytes before the zeros
abbrev pub spelling : Name → List ℕ
spelling name = before_first is_zero name.bytes

-- both names have equal bytes
abbrev pub same_name : Name → Name → Bool
same_name a b = pointwise nat_eq a.bytes b.bytes
