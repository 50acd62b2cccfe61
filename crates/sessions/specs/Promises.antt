-- What holds after every list of calls of a session.
use Rattle.std.specs.Prelude.{◌≡◌, ℕ, ◌+◌, ◌-◌, ◌*◌, ◌<◌, ◌≤◌, true, false, List, [], ◌∷◌, ◌++◌, length}
use Rattle.tables.specs.Tables.{Table, size_of, Shaped, is_void, Inside, count}
use Rattle.rules.specs.Rules.{Rule, Assignment, In, Same, Single}
use Rattle.rules.specs.Banks.{called}
use Rattle.sessions.specs.declared.standing.Standing.TheVariants as standing
use Rattle.sessions.specs.declared.call.Call.{Call}
use Rattle.sessions.specs.declared.answer.Answer.{Answer}
use Rattle.sessions.specs.declared.answer.Answer.TheVariants.{Done, Emptied, Settled, Failed, Refused}
use Rattle.sessions.specs.Agendas.{member, upto}
use Rattle.sessions.specs.Worlds.{World, is_failed}
use Rattle.sessions.specs.Steps.{Step}
use Rattle.sessions.specs.Histories.{History, Event, Lived, bounds, rested, ever_settled, touched}
use Rattle.sessions.specs.Numbers.{total, obeys_all, obeying}

-- no rule shrinks a table
abbrev pub Unshrunk : ℕ → List Rule → Table → Type 0
Unshrunk n rules t = (i : ℕ) → i < length rules → Same n ((called rules i).filter t) t

-- A table without empty domains, inside another one, that no rule shrinks.
pub record Stable (n : ℕ) (rules : List Rule) (b t : Table) : Type 0 where
  pub shaped : Shaped n t
  pub full : is_void n t ≡ false
  pub inside : Inside t b
  pub unshrunk : Unshrunk n rules t

-- The greatest of them: every other one lies inside it.
pub record Greatest (n : ℕ) (rules : List Rule) (b t : Table) : Type 0 where
  pub stable : Stable n rules b t
  pub greatest : (u : Table) → Stable n rules b u → Inside u t

-- there is none
abbrev pub NoStable : ℕ → List Rule → Table → Type 0
NoStable n rules b = (u : Table) → Stable n rules b u → ⊥

-- an assignment lies in a table and obeys all rules
abbrev pub Obeys : ℕ → List Rule → Table → Assignment → Type 0
Obeys n rules t a = In n t a × (obeys_all rules a ≡ true)

-- how many rules watch x
abbrev pub watchers : List Rule → ℕ → ℕ
watchers rules x = count (λ i. (called rules i).watches x) (length rules)

-- for each value that the first n domains lost, the rules that watch its variable
abbrev pub lost : ℕ → List Rule → Table → Table → ℕ
lost n rules before after = total (λ x. (size_of (before x) - size_of (after x)) * watchers rules x) n

-- the runs that an answer reports are at most the rules that waited before, and for each value removed those that watch its variable
abbrev pub Bounded : ℕ → List Rule → World → Answer → World → Type 0
Bounded n rules before Done after = Unit {0}
Bounded n rules before Emptied after = Unit {0}
Bounded n rules before (Settled k m) after = k ≤ length before.agenda + lost n rules before.table after.table
Bounded n rules before (Failed i k) after = Unit {0}
Bounded n rules before (Refused f) after = Unit {0}

-- two worlds are the same, but for the table of a failure
pub record Alike (w w' : World) : Type 0 where
  pub standing : w.standing ≡ w'.standing
  pub agenda : w.agenda ≡ w'.agenda
  pub saves : w.saves ≡ w'.saves
  pub saved : w.saved ≡ w'.saved
  pub table : is_failed w.standing ≡ false → w.table ≡ w'.table

-- which rules wait: all of them until a settle has answered settled, later only such as watch a variable on which an order was performed since the last settled answer or granted restore
pub record Waiting (rules : List Rule) (h : History) (w : World) : Type 0 where
  pub all : is_failed w.standing ≡ false → ever_settled h ≡ false → w.agenda ≡ upto (length rules)
  pub since : (i : ℕ) → ever_settled h ≡ true → member i w.agenda ≡ true → (x : ℕ) × (touched h x ≡ true) × ((called rules i).watches x ≡ true)

-- What is promised of a history from a start and the world it leads to; `bounds start h` is the start's table under the orders in force.
pub record Promises (n most : ℕ) (rules : List Rule) (start : Table) (base : List Table) (h : History) (w : World) : Type 0 where
  -- Greatest table: after a settled answer or a granted restore, and as long as the session stands settled, the values left are the greatest table that no rule shrinks.
  pub rests : rested h ≡ true → w.standing ≡ standing.Settled
  pub greatest : w.standing ≡ standing.Settled → Greatest n rules (bounds start h) w.table
  -- Where the session stands failed there is no such table.
  pub none : w.standing ≡ standing.Failed → NoStable n rules (bounds start h)
  -- No assignment lost: the same assignments obey under the orders in force as in the domains left, and as many.
  pub same : is_failed w.standing ≡ false → (a : Assignment) → Obeys n rules (bounds start h) a → Obeys n rules w.table a
  pub back : is_failed w.standing ≡ false → (a : Assignment) → Obeys n rules w.table a → Obeys n rules (bounds start h) a
  pub many : is_failed w.standing ≡ false → obeying n rules (bounds start h) ≡ obeying n rules w.table
  -- While it stands failed none obeys.
  pub lost : w.standing ≡ standing.Failed → (a : Assignment) → Obeys n rules (bounds start h) a → ⊥
  pub zero : w.standing ≡ standing.Failed → obeying n rules (bounds start h) ≡ 0
  -- Where it stands settled with one value in each domain, exactly one does.
  pub one : w.standing ≡ standing.Settled → Single n w.table → obeying n rules (bounds start h) ≡ 1
  -- The road does not matter: any session with the same start, rules and orders that come to the same, settled too, shows the same table.
  pub road : w.standing ≡ standing.Settled → (most' : ℕ) (base' : List Table) (h' : History) (w' : World) → Lived n most' rules start base' h' w' → w'.standing ≡ standing.Settled → bounds start h' ≡ bounds start h → w'.table ≡ w.table
  -- Which rules wait.
  pub waiting : Waiting rules h w
  -- The session has no more saves of its own than tables are saved in the store.
  pub own : w.saves ≤ length w.saved

-- nothing that is asked changes a world any more
abbrev pub Stuck : ℕ → ℕ → List Rule → World → Type 0
Stuck n most rules w = (c : Call) (a : Answer) (v : World) → Step n most rules w v c a → v ≡ w

-- What is promised of one more call, from the world w to the world w'.
pub record Kept (n most : ℕ) (rules : List Rule) (start : Table) (base : List Table) (h : History) (c : Call) (a : Answer) (w w' : World) : Type 0 where
  -- the history with this call lives on
  pub lived : Lived n most rules start base (record { call = c; answer = a } ∷ h) w'
  -- and keeps the promises
  pub promises : Promises n most rules start base (record { call = c; answer = a } ∷ h) w'
  -- Bounded work.
  pub bounded : Bounded n rules w a w'
  -- no other answer was possible, and no other world but for the table of a failure
  pub only : (b : Answer) (v : World) → Step n most rules w v c b → (b ≡ a) × Alike v w'

-- What is promised of a history and all that it went through: at its beginning, and at each call in it.
pub record Throughout (n most : ℕ) (rules : List Rule) (start : Table) (base : List Table) (h : History) (w : World) : Type 0 where
  pub lived : Lived n most rules start base h w
  pub promises : Promises n most rules start base h w
  -- before any call
  pub first : (v : World) × Lived n most rules start base [] v × Promises n most rules start base [] v
  -- each call in it, with what came before it
  pub each : (later earlier : History) (e : Event) → h ≡ later ++ (e ∷ earlier) → (v v' : World) × Lived n most rules start base earlier v × Kept n most rules start base earlier e.call e.answer v v'
