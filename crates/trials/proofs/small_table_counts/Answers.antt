use Rattle.std.proofs.Common.{refl, ◌∙◌, inl}
use Rattle.tables.specs.Tables.{size_of}
use Rattle.trials.specs.Examples.{Computes}
use Rattle.trials.proofs.small_table_counts.Goals as goal

computes : Computes
unfolding size_of
computes = record {
  first = refl;
  second = refl;
  outside = refl;
  kept_first = refl;
  kept_second = refl;
  kept_value = refl;
  kept_other = refl;
  full = refl;
  kept_full = refl;
  void = refl;
  within = inl refl;
}

pub returns : goal.returns
unfolding size_of
returns c = record { defined = computes; counted = c.size.ensures.value ∙ refl }
