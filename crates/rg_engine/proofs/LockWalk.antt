-- Which other session holds a FIND up.
use Rattle.std.proofs.Common.{◌≡◌, ◌+◌, ◌-◌, ◌^◌, ℕ, Bool, true, false}
use Rattle.std.proofs.Common.{cond, List, [], ◌∷◌, ◌++◌, Option, Some, None, sym, ◌∙◌}
use Rattle.std.proofs.Common.{ap}
use Rattle.std.specs.Borrow.{Bor}
use Rattle.std.specs.Option.{option_map}
use Rattle.std.specs.FinMap as fin
use Rattle.rg_base.specs.declared.lock.Lock.{Lock}
use Rattle.rg_base.specs.declared.session.Session.{Session}
use Rattle.rg_base.specs.First.{IsFirstFrom}
use Rattle.rg_base.proofs.Walk.{passing_from, walk_begins, walk_ends, walk_goes}
use Rattle.rg_model.specs.Held.{first_owner}
use Rattle.rg_model.specs.Held.{is_held_with_cat, find_holder}
use Rattle.rg_model.specs.State.{Table, Locks}

-- a lock that a borrowed map found, with its key
abbrev pub valued : Option (ℕ × Bor Lock) → Option (ℕ × Lock)
valued found = option_map (λ entry. (entry.0, entry.1.now)) found

-- how many numbers may follow
abbrev pub room_after : Option (ℕ × Bor Lock) → ℕ
room_after None = 0
room_after (Some found) = 2 ^ 64 - found.0

-- the session that was found, or the one of the rest
abbrev pub unless_found : Option Session → Option Session → Option Session
unless_found None rest = rest
unless_found (Some owner) rest = Some owner

module _ (table : Table) (locks : Locks) (session : Session) (cat : ℕ) where
  -- the locks that hold a FIND up, from a key on
  abbrev pub holding_from : ℕ → List (ℕ × Lock)
  holding_from from = passing_from (is_held_with_cat table session cat) from (fin.entries locks)

  pub find_begins : first_owner (holding_from 0) ≡ find_holder table locks session cat
  find_begins =
      ap first_owner (walk_begins (is_held_with_cat table session cat) locks (fin.entries locks))

  -- the next lock, whose owner holds it up or not
  next_goes : (key : ℕ) (lock : Lock) (b : Bool) (found : Option Session)
      → found ≡ cond b (Some lock.owner) None
      → first_owner (cond b ((key, lock) ∷ []) [] ++ holding_from (key + 1))
      ≡ unless_found found (first_owner (holding_from (key + 1)))
  next_goes key lock true found is =
      sym (ap (λ (f : Option Session). unless_found f (first_owner (holding_from (key + 1)))) is)
  next_goes key lock false found is =
      sym (ap (λ (f : Option Session). unless_found f (first_owner (holding_from (key + 1)))) is)

  pub find_goes : (from key : ℕ) (lock : Lock) (found : Option Session)
      → IsFirstFrom locks from (Some (key, lock))
      → found ≡ cond (is_held_with_cat table session cat (key, lock)) (Some lock.owner) None
      → first_owner (holding_from from) ≡ unless_found found (first_owner (holding_from (key + 1)))
  find_goes from key lock found first is =
      ap first_owner (walk_goes (is_held_with_cat table session cat) locks from (key, lock) first)
      ∙ next_goes key lock (is_held_with_cat table session cat (key, lock)) found is

  pub find_ends : (from : ℕ) → IsFirstFrom locks from None → first_owner (holding_from from) ≡ None
  find_ends from empty =
      ap first_owner (walk_ends (is_held_with_cat table session cat) locks from empty)
