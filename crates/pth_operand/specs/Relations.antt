-- How two numbers are compared.
use Rattle.std.specs.Prelude.{Bool, not, ℤ}
use Rattle.std.specs.Ordering.{int_eq}
use Rattle.std.specs.Int.Signed.{lt_z}
use Rattle.pth_operand.specs.declared.relation.Relation.{Relation}
use Rattle.pth_operand.specs.declared.relation.Relation.TheVariants as rel

-- whether a relation holds between two numbers
abbrev pub holds_between : Relation → ℤ → ℤ → Bool
holds_between rel.Eq a b = int_eq a b
holds_between rel.Ne a b = not (int_eq a b)
holds_between rel.Lt a b = lt_z a b
holds_between rel.Le a b = not (lt_z b a)
holds_between rel.Gt a b = lt_z b a
holds_between rel.Ge a b = not (lt_z a b)
