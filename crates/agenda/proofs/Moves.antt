-- What stays true of an agenda as rules join it and leave it.
use Rattle.std.proofs.Common.{◌≡◌, ℕ, ◌+◌, ◌-◌, ◌%◌, ◌<◌, ◌≤◌, Bool, true, false, not, ◌&&◌, ◌||◌, eqb, ltb, List, [], ◌∷◌, ◌++◌, length, get_or, set, sym, ap, ◌∙◌, subst, ⊎_elim, arith}
use Rattle.std.proofs.lemmas.Bool.{both_ways, cases_lt}
use Rattle.rules.specs.Banks.{in_set}
use Rattle.rules.proofs.Numbers.{set_past}
use Rattle.rules.specs.Sets.{members_of}
use Rattle.rules.proofs.Walks.{select_ext}
use Rattle.sessions.proofs.Waits.{selected}
use Rattle.sessions.specs.Agendas.{member, NoTwice, joined}
use Rattle.agenda.specs.Rings.{queue, is_apart}
use Rattle.agenda.specs.Facts.{length_queue, apart_says}
use Rattle.agenda.proofs.Lists.{room, says_apart, push_apart, push_tells, pop_tells, member_neither, select_apart, part_member, part_new}
use Rattle.agenda.proofs.Places.{pushed, popped}

-- a set tells the members of a list
abbrev pub Tells : List ℕ → List ℕ → Type 0
Tells set xs = (k : ℕ) → in_set set k ≡ member k xs

-- what is told lies below 256
told_below : (set xs : List ℕ) → length set ≡ 4 → Tells set xs → (k : ℕ) → member k xs ≡ true → k < 256
told_below set xs four tells k e =
    ⊎_elim (λ low. low) (λ high. absurd (both_ways (member k xs) (sym (tells k) ∙ set_past set four k high) e)) (cases_lt k 256)

-- ---- one joins

module _ (ring waiting : List ℕ) (first len x : ℕ) (full : length ring ≡ 256) (four : length waiting ≡ 4) (apart : is_apart (queue ring first len) ≡ true) (tells : Tells waiting (queue ring first len)) (below : x < 256) (new : member x (queue ring first len) ≡ false) (at : ℕ) (place : at ≡ (first + len) % 256) where
  has_room : len < 256
  has_room =
      let h = room 256 x (queue ring first len) (apart_says (queue ring first len) apart) (told_below waiting (queue ring first len) four tells) below new in
      let l = length_queue ring first len in
      omega arith

  pub push_is : queue (set ring at x) first (len + 1) ≡ queue ring first len ++ x ∷ []
  push_is = ap (λ i. queue (set ring i x) first (len + 1)) place ∙ pushed ring first len x full has_room

  pub push_few : len + 1 ≤ 256
  push_few = let h = has_room in omega arith

  pub push_is_apart : is_apart (queue (set ring at x) first (len + 1)) ≡ true
  push_is_apart = ap is_apart push_is ∙ says_apart (queue ring first len ++ x ∷ []) (push_apart x (queue ring first len) (apart_says (queue ring first len) apart) new)

  pub push_is_told : (after : List ℕ) → ((k : ℕ) → in_set after k ≡ (in_set waiting k || (eqb k x && ltb x 256))) → Tells after (queue (set ring at x) first (len + 1))
  push_is_told after put k = push_tells (in_set waiting) (in_set after) x (queue ring first len) below tells put k ∙ ap (member k) (sym push_is)

-- ---- the first leaves

module _ (ring waiting : List ℕ) (first len : ℕ) (low : first < 256) (some : 0 < len) (apart : is_apart (queue ring first len) ≡ true) (tells : Tells waiting (queue ring first len)) (at : ℕ) (place : at ≡ (first + 1) % 256) where
  pub pop_is : queue ring first len ≡ get_or ring first 0 ∷ queue ring at (len - 1)
  pop_is = popped ring first len low some ∙ ap (λ i. get_or ring first 0 ∷ queue ring i (len - 1)) (sym place)

  once : NoTwice (get_or ring first 0 ∷ queue ring at (len - 1))
  once = subst NoTwice pop_is (apart_says (queue ring first len) apart)

  pub pop_is_apart : is_apart (queue ring at (len - 1)) ≡ true
  pop_is_apart = says_apart (queue ring at (len - 1)) once.1

  pub pop_is_told : (after : List ℕ) → ((k : ℕ) → in_set after k ≡ (in_set waiting k && not (eqb k (get_or ring first 0)))) → Tells after (queue ring at (len - 1))
  pop_is_told after taken = pop_tells (in_set waiting) (in_set after) (get_or ring first 0) (queue ring at (len - 1)) once.0 (λ k. tells k ∙ ap (member k) pop_is) taken

-- ---- a set joins

module _ (new start : List ℕ) where
  -- the next member is a number below 256, does not wait, and is not among those that have joined
  pub join_next : ((k : ℕ) → in_set new k ≡ true → member k start ≡ false) → (joined rest : List ℕ) (rule : ℕ) → members_of new ≡ joined ++ rule ∷ rest → (rule < 256) × (member rule (start ++ joined) ≡ false)
  unfolding members_of
  join_next none joined rest rule e =
      let in-set = selected (in_set new) 256 rule (ap (member rule) e ∙ part_member joined rest rule) in
      (in-set.0, member_neither rule start joined (none rule in-set.1) (part_new joined rest rule (subst NoTwice e (select_apart (in_set new) 256))))

  -- all have joined
  pub join_all : (s : ℕ → Bool) → ((k : ℕ) → in_set new k ≡ (s k && not (member k start))) → start ++ members_of new ≡ joined start s
  unfolding members_of joined
  join_all s made = ap (λ (xs : List ℕ). start ++ xs) (select_ext (in_set new) (λ k. s k && not (member k start)) 256 (λ k _. made k))
