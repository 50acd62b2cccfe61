use Rattle.std.proofs.Common.{◌≡◌, ℤ, pos, negsuc, ◌≤ℤ◌, None, Option, MatchOption, sym, subst, ◌∙◌, arith, w32, to_z, of_z}
use Rattle.std.proofs.lemmas.Int.{ints}
use Rattle.tables.specs.Tables.{Domain, size_of}
use Rattle.filters.specs.Ends.{least, greatest}
use Rattle.filters.specs.declared.ends.Ends.{Ends}
use Rattle.tables.proofs.Places.{value_low, value_from}
use Rattle.tables.proofs.Counts.{size_none}
use Rattle.filters.proofs.Extremes.{least_is, greatest_is}
use Rattle.filters.proofs.ends_of.Goals as goal

-- a value is held by a signed number of 32 bits
held : (v : ℤ) → negsuc 511 ≤ℤ v → v ≤ℤ pos 511 → to_z w32 (of_z w32 v) ≡ v
held v a b = omega (arith, ints)

bound : (v : ℤ) → negsuc 511 ≤ℤ v → v ≤ℤ pos 511 → (negsuc 511 ≤ℤ to_z w32 (of_z w32 v)) × (to_z w32 (of_z w32 v) ≤ℤ pos 511)
bound v a b = (omega (arith, ints), omega (arith, ints))

-- no value is found, so there is none
none : (d : Domain) (r : Option Ends) → r ≡ None → size_of d ≡ 0 → MatchOption r (size_of d ≡ 0) (λ e. (e.lo ≡ least d) × (e.hi ≡ greatest d))
none d r is z = subst (λ (r : Option Ends). MatchOption r (size_of d ≡ 0) (λ e. (e.lo ≡ least d) × (e.hi ≡ greatest d))) (sym is) z

pub returns-in_err-lo-clause-value : goal.returns-in_err-lo-clause-value
returns-in_err-lo-clause-value g c = none _ _ c.from_residual.ensures (size_none (g.S.Domains.table c.args.store.now c.args.x) (λ v h. c.in_err-lo.ensures.value v (value_low v h)))

pub returns : goal.returns
returns g c =
    let d : Domain = g.S.Domains.table c.args.store.now c.args.x in
    let lo = c.in_ok-lo.lo in
    let hi = c.in_ok-hi.hi in
    let l = c.in_ok-lo.ensures in
    let h = c.in_ok-hi.ensures in
    let lb = l.bounds in
    let hb = h.bounds in
    record {
      value = (held lo lb.0 lb.1 ∙ least_is d lo (value_from lo lb.0 lb.1) l.value, held hi hb.0 hb.1 ∙ greatest_is d hi (value_from hi hb.0 hb.1) h.value);
      bounds = ((bound lo lb.0 lb.1).0, (bound lo lb.0 lb.1).1, (bound hi hb.0 hb.1).0, (bound hi hb.0 hb.1).1);
    }
