-- One walk over the values of y, which collects those with a partner in x, and the partners.
use Rattle.std.proofs.Common.{◌≡◌, ℕ, Bool, true, false, ◌&&◌, ◌||◌, List, ℤ, pos, negsuc, ◌+ℤ◌, ◌-ℤ◌, ◌≤ℤ◌, sym, ap, ◌∙◌, subst, ap₂, ⊎_elim, arith, w32, to_z, of_z}
use Rattle.std.proofs.Math.Bool.{or-false, and_comm}
use lib.Signed.{lt_z}
use Rattle.std.proofs.lemmas.Int.{ints, by_lt_z}
use Rattle.std.proofs.lemmas.Bool.{cases_Bool, and_left, and_right, and_from, and_parts, or_from}
use Rattle.tables.specs.Values.{is_value, equal_int}
use Rattle.tables.specs.Rows.{in_row}
use Rattle.tables.specs.Tables.{Domain, Table, Shaped, Least}
use Rattle.tables.proofs.Places.{equal_true, value_low, value_high}
use Rattle.offsets.specs.Offsets.{in_reach}

-- what a walk has met below a number
abbrev pub met : Domain → ℤ → ℤ → Bool
met p from u = lt_z u from && p u

-- one step, to the next that is met
met_more : (p : Domain) (from w u : ℤ) → from ≤ℤ w → ((k : ℤ) → from ≤ℤ k → p k ≡ true → w ≤ℤ k) → met p (w +ℤ pos 1) u ≡ (met p from u || (p w && equal_int u w))
met_more p from w u a f = ⊎_elim yes no (cases_Bool (p u))
  where
    yes : p u ≡ true → met p (w +ℤ pos 1) u ≡ (met p from u || (p w && equal_int u w))
    yes h =
        by_lt_z u from
        (λ l. let r : lt_z u (w +ℤ pos 1) ≡ true = grind (arith, ints) in let s : lt_z u from ≡ true = grind (arith, ints) in cc)
        (λ g.
        let le = f u g h in
        let s : lt_z u from ≡ false = grind (arith, ints) in
        by_lt_z w u
        (λ far. let r : lt_z u (w +ℤ pos 1) ≡ false = grind (arith, ints) in let ne : equal_int u w ≡ false = grind (arith, ints) in let z = and_right (p w) (equal_int u w) ne in cc)
        (λ near.
        let r : lt_z u (w +ℤ pos 1) ≡ true = grind (arith, ints) in
        let eq : equal_int u w ≡ true = grind (arith, ints) in
        let z = and_from (p w) (equal_int u w) (subst (λ k. p k ≡ true) (equal_true u w eq) h) eq in
        cc))

    no : p u ≡ false → met p (w +ℤ pos 1) u ≡ (met p from u || (p w && equal_int u w))
    no h =
        let none : (p w && equal_int u w) ≡ false = ⊎_elim (λ eq. and_left (p w) _ (subst (λ k. p k ≡ false) (equal_true u w eq) h)) (λ ne. and_right (p w) _ ne) (cases_Bool (equal_int u w)) in
        and_right (lt_z u (w +ℤ pos 1)) (p u) h ∙ sym (or_from (met p from u) _ (and_right (lt_z u from) (p u) h) none)

-- whether w of y has a partner in x
abbrev pub pairs : Table → ℕ → ℕ → ℤ → Domain
pairs t x y c w = t y w && t x (w +ℤ c)

-- the rows of a walk that has come to a number
abbrev pub Walked : Table → ℕ → ℕ → ℤ → ℤ → List ℕ → List ℕ → Type 0
Walked t x y c from rx ry = (from ≤ℤ pos 512) × ((v : ℤ) → in_row rx v ≡ met (pairs t x y c) from (v -ℤ c)) × ((w : ℤ) → in_row ry w ≡ met (pairs t x y c) from w)

-- a number as a signed one of 32 bits holds it
abbrev held : ℤ → ℤ
held z = to_z w32 (of_z w32 z)

held_same : (z : ℤ) → negsuc 4095 ≤ℤ z → z ≤ℤ pos 4095 → held z ≡ z
held_same z a b = omega (arith, ints)

same_value : (v w c : ℤ) → equal_int v (w +ℤ c) ≡ equal_int (v -ℤ c) w
same_value v w c = grind (arith, ints)

back : (v c : ℤ) → (v -ℤ c) +ℤ c ≡ v
back v c = omega (arith, ints)

low_reach : (c : ℤ) → in_reach c ≡ true → negsuc 1022 ≤ℤ c
low_reach c h = grind (arith, ints)

high_reach : (c : ℤ) → in_reach c ≡ true → c ≤ℤ pos 1023
high_reach c h = grind (arith, ints)

module _ (n : ℕ) (t : Table) (shaped : Shaped n t) (x y : ℕ) (c : ℤ) where
  low : (w : ℤ) → t y w ≡ true → negsuc 511 ≤ℤ w
  low w h = value_low w (shaped y w h).1

  high : (w : ℤ) → t y w ≡ true → w ≤ℤ pos 511
  high w h = value_high w (shaped y w h).1

  -- before the first turn
  pub walk_none : (rx ry : List ℕ) → ((v : ℤ) → in_row rx v ≡ false) → ((v : ℤ) → in_row ry v ≡ false) → Walked t x y c (negsuc 511) rx ry
  walk_none rx ry a b = (omega (arith, ints), (λ v. a v ∙ sym (none (v -ℤ c))), (λ w. b w ∙ sym (none w)))
    where
      none : (u : ℤ) → met (pairs t x y c) (negsuc 511) u ≡ false
      none u = ⊎_elim (λ yes. let l = low u yes in let s : lt_z u (negsuc 511) ≡ false = grind (arith, ints) in and_left (lt_z u (negsuc 511)) _ s) (λ no. and_right (lt_z u (negsuc 511)) _ (and_left (t y u) _ no)) (cases_Bool (t y u))

  -- after the last turn
  pub walk_all : (from : ℤ) (rx ry : List ℕ) → Walked t x y c from rx ry → ((u : ℤ) → from ≤ℤ u → t y u ≡ false) → ((v : ℤ) → in_row rx v ≡ (t x v && t y (v -ℤ c))) × ((w : ℤ) → in_row ry w ≡ (t y w && t x (w +ℤ c)))
  walk_all from rx ry inv none = ((λ v. inv.1 v ∙ all (v -ℤ c) ∙ ap (λ u. t y (v -ℤ c) && t x u) (back v c) ∙ and_comm (t y (v -ℤ c)) (t x v)), (λ w. inv.2 w ∙ all w))
    where
      all : (u : ℤ) → met (pairs t x y c) from u ≡ pairs t x y c u
      all u = by_lt_z u from (λ l. let s : lt_z u from ≡ true = grind (arith, ints) in ap (λ (b : Bool). b && pairs t x y c u) s) (λ g. let z = and_left (t y u) (t x (u +ℤ c)) (none u g) in and_right (lt_z u from) (pairs t x y c u) z ∙ sym z)

  -- one turn, to the next value w of y
  module _ (from w : ℤ) (next : Least (t y) from w) (rx ry : List ℕ) (inv : Walked t x y c from rx ry) (reach : in_reach c ≡ true) where
    step : (u : ℤ) → met (pairs t x y c) (w +ℤ pos 1) u ≡ (met (pairs t x y c) from u || (pairs t x y c w && equal_int u w))
    step u = met_more (pairs t x y c) from w u next.reached (λ k h p. next.least k h (and_parts (t y k) _ p).0)

    w_same : held w ≡ w
    w_same = let l = low w next.member in let h = high w next.member in held_same w (omega (arith, ints)) (omega (arith, ints))

    c_same : held c ≡ c
    c_same = let l = low_reach c reach in let h = high_reach c reach in held_same c (omega (arith, ints)) (omega (arith, ints))

    sum_same : held (held w +ℤ held c) ≡ w +ℤ c
    sum_same =
        ap₂ (λ a b. held (a +ℤ b)) w_same c_same
        ∙ (let l = low w next.member in let h = high w next.member in let cl = low_reach c reach in let ch = high_reach c reach in held_same (w +ℤ c) (omega (arith, ints)) (omega (arith, ints)))

    end : (w +ℤ pos 1) ≤ℤ pos 512
    end = let h = high w next.member in omega (arith, ints)

    -- w has a partner
    pub turn_hit : t x (held (held w +ℤ held c)) ≡ true → (new-x new-y : List ℕ) → ((v : ℤ) → in_row new-x v ≡ (in_row rx v || (is_value (held (held w +ℤ held c)) && equal_int v (held (held w +ℤ held c))))) → ((v : ℤ) → in_row new-y v ≡ (in_row ry v || (is_value (held w) && equal_int v (held w)))) → Walked t x y c (w +ℤ pos 1) new-x new-y
    turn_hit has new-x new-y ex ey = (end, at_x, at_y)
      where
        there : t x (w +ℤ c) ≡ true
        there = subst (λ z. t x z ≡ true) sum_same has

        both : pairs t x y c w ≡ true
        both = and_from (t y w) (t x (w +ℤ c)) next.member there

        at_x : (v : ℤ) → in_row new-x v ≡ met (pairs t x y c) (w +ℤ pos 1) (v -ℤ c)
        at_x v =
            ex v
            ∙ ap₂ (λ (a : Bool) (z : ℤ). a || (is_value z && equal_int v z)) (inv.1 v) sum_same
            ∙ ap (λ (b : Bool). met (pairs t x y c) from (v -ℤ c) || b) (ap₂ (λ (a b : Bool). a && b) ((shaped x (w +ℤ c) there).1 ∙ sym both) (same_value v w c))
            ∙ sym (step (v -ℤ c))

        at_y : (v : ℤ) → in_row new-y v ≡ met (pairs t x y c) (w +ℤ pos 1) v
        at_y v =
            ey v
            ∙ ap₂ (λ (a : Bool) (z : ℤ). a || (is_value z && equal_int v z)) (inv.2 v) w_same
            ∙ ap (λ (b : Bool). met (pairs t x y c) from v || (b && equal_int v w)) ((shaped y w next.member).1 ∙ sym both)
            ∙ sym (step v)

    -- w has none
    pub turn_miss : t x (held (held w +ℤ held c)) ≡ false → (new-x new-y : List ℕ) → new-x ≡ rx → new-y ≡ ry → Walked t x y c (w +ℤ pos 1) new-x new-y
    turn_miss has new-x new-y ex ey = (end, (λ v. ap (λ r. in_row r v) ex ∙ inv.1 v ∙ same (v -ℤ c)), (λ v. ap (λ r. in_row r v) ey ∙ inv.2 v ∙ same v))
      where
        none : (u : ℤ) → (pairs t x y c w && equal_int u w) ≡ false
        none u = and_left (pairs t x y c w) _ (and_right (t y w) _ (subst (λ z. t x z ≡ false) sum_same has))

        same : (u : ℤ) → met (pairs t x y c) from u ≡ met (pairs t x y c) (w +ℤ pos 1) u
        same u = sym (step u ∙ ap (λ (b : Bool). met (pairs t x y c) from u || b) (none u) ∙ or-false (met (pairs t x y c) from u))
