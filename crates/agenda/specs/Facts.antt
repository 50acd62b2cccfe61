-- What holds of every agenda.
use Rattle.std.specs.Prelude.{◌≡◌, ℕ, zero, suc, ◌+◌, ◌≤◌, true, not, List, [], ◌∷◌, length, refl}
use Rattle.std.proofs.Common.{sym, ap, subst}
use Rattle.std.proofs.lemmas.Bool.{and_parts, not-true}
use Rattle.sessions.specs.Agendas.{member, NoTwice}
use Rattle.agenda.specs.declared.queue.Agenda.{Agenda}
use Rattle.agenda.specs.Rings.{queue, is_apart}
use Rattle.agenda.specs.Meaning.{waits}

pub length_queue : (ring : List ℕ) (at len : ℕ) → length (queue ring at len) ≡ len
length_queue ring at zero = refl
length_queue ring at (suc len) = ap suc (length_queue ring (at + 1) len)

pub apart_says : (xs : List ℕ) → is_apart xs ≡ true → NoTwice xs
apart_says [] e = tt
apart_says (x ∷ xs) e = let parts = and_parts (not (member x xs)) (is_apart xs) e in (not-true (member x xs) parts.0, apart_says xs parts.1)

-- at most 256 rules wait
pub waits_few : (a : Agenda) → length (waits a) ≤ 256
waits_few a = subst (λ n. n ≤ 256) (sym (length_queue a.rules a.first a.len)) a.few

-- none twice
pub waits_apart : (a : Agenda) → NoTwice (waits a)
waits_apart a = apart_says (waits a) a.apart
