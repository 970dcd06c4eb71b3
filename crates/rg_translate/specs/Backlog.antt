-- The next changes of a backlog, and those of them that are made.
--
-- A change that is passed over is taken out of the backlog, and not made.
use Rattle.std.specs.Prelude.{◌≡◌, ℕ, ◌-◌, List, length, take, drop}
use Rattle.rg_base.specs.declared.change.Change.{Change}
use Rattle.rg_feed.specs.Ends.{Received}
use Rattle.rg_feed.specs.Fold.Fold.{changes, since_begin}
use Rattle.rg_feed.specs.Fold.Lawful.{kept}

-- how many changes were received since the last Begin
abbrev pub change_count : Received → ℕ
change_count inlet = length (changes (since_begin inlet.items))

-- how many of them were not taken yet
abbrev pub left : Received → ℕ
left inlet = change_count inlet - inlet.taken

-- the next n changes
abbrev pub next_changes : ℕ → Received → List Change
next_changes n inlet = take n (drop inlet.taken (changes (since_begin inlet.items)))

-- those of them that are not passed over
abbrev pub to_make : ℕ → Received → List Change
to_make n inlet = kept (since_begin inlet.items) (next_changes n inlet)

-- nothing was received
pub record SameItems (old new : Received) : Type 0 where
  pub ring : new.ring ≡ old.ring
  pub items : new.items ≡ old.items
  pub known : new.known ≡ old.known
