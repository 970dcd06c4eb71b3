-- What contracts see of the two ends of the feed.
-- (1) All that was sent is what went into the ring, and then what is pending.
-- (2) All that was received counts, though the inlet keeps only the copies of pages and the backlog
--     since the last Begin, and the last stage.
-- (3) How many changes were taken is what the backlog lacks of the changes since the last Begin. So
--     it is 0 again after a Begin.
use Rattle.std.specs.Prelude.{◌≡◌, ◌==◌, ◌&&◌, ℕ, ◌+◌, ◌-◌, Bool, true, false, List, [], ◌∷◌, ◌++◌}
use Rattle.std.specs.Prelude.{Option, length, take, drop}
use Rattle.rg_base.specs.declared.change.Change.{Change}
use Rattle.rg_feed.specs.Fold.Fold.{changes, page_copies, since_begin, stage_of}
use Rattle.rg_feed.specs.declared.fold.item.Item.{Item}
use Rattle.rg_feed.specs.declared.fold.item.Item.TheVariants.{Begin, PageCopy}
use Rattle.rg_feed.specs.declared.fold.item.Stage.{Stage}
use Rattle.rg_feed.specs.Ring.{Ring}

-- the outlet: the items in the ring or taken out of it, those pending, how many slots of the ring
-- it knows to be free, and for how many more pending items it has room
pub record Sent : Type 0 where
  pub ring : Ring
  pub pushed : List Item
  pub pending : List Item
  pub free : ℕ
  pub spare : ℕ

-- the inlet: the items received, those it knows to be in the ring, how many changes were taken
-- since the last Begin, and for how many more items it has room
pub record Received : Type 0 where
  pub ring : Ring
  pub items : List Item
  pub known : List Item
  pub taken : ℕ
  pub spare : ℕ

-- all that was sent
abbrev pub sent_items : Sent → List Item
sent_items outlet = outlet.pushed ++ outlet.pending

-- nothing was sent, and nothing is lost
pub record SameSent (old new : Sent) : Type 0 where
  pub ring : new.ring ≡ old.ring
  pub items : sent_items new ≡ sent_items old

-- so many pending items went into the ring, the first one first
pub record Pumped (n : ℕ) (old new : Sent) : Type 0 where
  pub pushed : new.pushed ≡ old.pushed ++ take n old.pending
  pub pending : new.pending ≡ drop n old.pending
  pub count : length old.pending ≡ n + length new.pending

-- nothing was received or taken
pub record SameReceived (old new : Received) : Type 0 where
  pub ring : new.ring ≡ old.ring
  pub items : new.items ≡ old.items
  pub taken : new.taken ≡ old.taken

-- how many changes count as taken once these items are received
abbrev pub still_taken : List Item → ℕ → ℕ
still_taken [] taken = taken
still_taken (Begin options pages ∷ feed) taken = still_taken feed 0
still_taken (item ∷ feed) taken = still_taken feed taken

-- more was received
pub record Grew (old new : Received) : Type 0 where
  pub ring : new.ring ≡ old.ring
  pub more : List Item
  pub items : new.items ≡ old.items ++ more
  pub taken : new.taken ≡ still_taken more old.taken

-- what was received, what is known to be in the ring and what is pending is all that was sent
abbrev pub Joined : Received → Sent → Type 0
Joined inlet outlet = inlet.items ++ (inlet.known ++ outlet.pending) ≡ sent_items outlet

-- how many items are known to be in the ring or are pending
abbrev pub waiting : Received → Sent → ℕ
waiting inlet outlet = length inlet.known + length outlet.pending

-- how many changes the backlog lacks
abbrev pub taken_of : List Item → List Change → ℕ
taken_of feed backlog = length (changes (since_begin feed)) - length backlog

-- what an inlet keeps is that of the items received: the copies, the changes left and the last
-- stage
pub record Keeps
    (feed : List Item) (made : List Item) (left : List Change) (last : Option Stage)
    : Type 0 where
  pub copies : made ≡ page_copies (since_begin feed)
  pub backlog : left ≡ drop (taken_of feed left) (changes (since_begin feed))
  pub stage : last ≡ stage_of feed

-- these are copies of the pages behind this one, in turn
abbrev pub are_numbered : ℕ → List Item → Bool
are_numbered page [] = true
are_numbered page (PageCopy next position rows ∷ feed) =
    next == page + 1 && are_numbered (page + 1) feed
are_numbered page (item ∷ feed) = false
