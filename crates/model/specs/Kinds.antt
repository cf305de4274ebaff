-- What the number of a record's kind stands for (§10.2).
use Rattle.std.specs.Prelude.{ℕ, cond, eqb}
use Rattle.model.specs.declared.Kind.{Kind}
use Rattle.model.specs.declared.Kind.TheVariants as kind

abbrev pub kind_of : ℕ → Kind
kind_of n = cond (eqb n 0) kind.Insert (cond (eqb n 1) kind.Remove (cond (eqb n 2) kind.Cleanup kind.Unknown))
