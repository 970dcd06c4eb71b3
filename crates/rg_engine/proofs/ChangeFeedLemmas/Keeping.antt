-- What a desk keeps of what it has sent is kept by each entry.
use Rattle.std.proofs.Common.{◌≡◌, ◌==◌, ◌≤◌, ◌<◌, ◌+◌, ◌++◌, ℕ, Bool, true, false, if◌then◌else◌}
use Rattle.std.proofs.Common.{List, [], ◌∷◌, Option, Some, None, is_some, length, refl, sym, ◌∙◌}
use Rattle.std.proofs.Common.{ap, subst, append-nil, append_assoc, length-append}
use Rattle.std.proofs.lemmas.Bool.{eqb-true}
use Rattle.rg_base.specs.declared.change.Change.{Change}
use Rattle.rg_base.specs.declared.options.Options.{Options}
use Rattle.rg_base.specs.declared.place.Place.{Place}
use Rattle.rg_base.specs.declared.position.Position.{Position}
use Rattle.rg_base.specs.declared.row.Row.{Row}
use Rattle.rg_base.specs.declared.session.Session.{Session}
use Rattle.rg_base.proofs.Small.{nat_itself}
use Rattle.rg_feed.specs.Fold.Fold.{copied_rows, page_copies, row_in, since, since_begin}
use Rattle.rg_feed.specs.Fold.Lawful.{AreRowsOf}
use Rattle.rg_feed.specs.declared.fold.item.Item.{Item}
use Rattle.rg_feed.specs.declared.fold.item.Item.TheVariants.{Begin, Booked, PageCopy}
use Rattle.rg_feed.specs.declared.fold.item.Stage.{Stage}
use Rattle.rg_feed.specs.declared.fold.item.Item.TheVariants as items
use Rattle.rg_feed.proofs.FoldLemmas.Feeding.{later_ordered}
use Rattle.rg_feed.proofs.FoldLemmas.Folds.{page_copies-append, since-append}
use Rattle.rg_model.specs.Utility.{starts_utility}
use Rattle.rg_laws_utility.proofs.QuietKeysLemmas.Louder.{none_hushed}
use Rattle.rg_model.specs.Changes.{unit_writes, writes_after}
use Rattle.rg_engine.specs.ChangeFeed.Sending.{AreCopies, CopiesOne, HasMoved, KeepsSent}
use Rattle.rg_engine.specs.ChangeFeed.Sending.{SameCopies, items_made}
use Rattle.rg_feed.specs.SentItems.Keeps.{KeepsFeed, Rows, sent_changes}
use Rattle.rg_feed.specs.SentItems.Laws.{HasSamePages}
use Rattle.rg_feed.proofs.SentItemsLemmas.Sending.{copy_sent, entry_passed, moves_sent, start_sent}
use Rattle.rg_feed.proofs.SentItemsLemmas.Sending.{switch_passed}
use Rattle.rg_stmt.specs.Entries.{opened_entry, said_entry}
use Rattle.rg_stmt.specs.declared.event.Entry.{Entry}
use Rattle.rg_stmt.specs.declared.stmt.Reply.{Reply}
use Rattle.rg_stmt.specs.declared.stmt.Stmt.{Stmt}
use Rattle.rg_rules.specs.Tally.Changed.{ChangeCount, IsCounted, made_by}

-- ---- the copies among the items

since_changes : (before : List Item) (made : List Change)
    → since before (sent_changes made) ≡ before ++ sent_changes made
since_changes before [] = sym (append-nil before)
since_changes before (x ∷ xs) = since_changes (before ++ items.Change x ∷ []) xs
    ∙ append_assoc before (items.Change x ∷ []) (sent_changes xs)

pub since_made : (feed : List Item) (made : List Change)
    → since_begin (feed ++ sent_changes made) ≡ since_begin feed ++ sent_changes made
since_made feed made =
    since-append [] feed (sent_changes made) ∙ since_changes (since_begin feed) made

no_copies : (made : List Change) → page_copies (sent_changes made) ≡ []
no_copies [] = refl
no_copies (x ∷ xs) = no_copies xs

pub copied_rows-append : (xs ys : List Item)
    → copied_rows (xs ++ ys) ≡ copied_rows xs ++ copied_rows ys
copied_rows-append [] ys = refl
copied_rows-append (Begin o n ∷ xs) ys = copied_rows-append xs ys
copied_rows-append (PageCopy n at rows ∷ xs) ys =
    ap (λ more. rows ++ more) (copied_rows-append xs ys)
    ∙ sym (append_assoc rows (copied_rows xs) (copied_rows ys))
copied_rows-append (items.Change c ∷ xs) ys = copied_rows-append xs ys
copied_rows-append (Booked s ∷ xs) ys = copied_rows-append xs ys

pub no_rows : (made : List Change) → copied_rows (sent_changes made) ≡ []
no_rows [] = refl
no_rows (x ∷ xs) = no_rows xs

made_copies : (stage : Option Stage) (feed : List Item) (made : List Change) → AreCopies stage feed
    → AreCopies stage (feed ++ sent_changes made)
made_copies None feed made are = tt
made_copies (Some s) feed made are = (
  ap (λ (xs : List Item). length xs)
      (ap page_copies (since_made feed made)
      ∙ page_copies-append (since_begin feed) (sent_changes made)
      ∙ ap (λ (xs : List Item). page_copies (since_begin feed) ++ xs) (no_copies made)
      ∙ append-nil (page_copies (since_begin feed))) ∙ are.0,
  ap (λ (xs : List (Place × Row)). length xs)
      (ap copied_rows (since_made feed made)
      ∙ copied_rows-append (since_begin feed) (sent_changes made)
      ∙ ap (λ (xs : List (Place × Row)). copied_rows (since_begin feed) ++ xs) (no_rows made)
      ∙ append-nil (copied_rows (since_begin feed))) ∙ are.1,
)

begun_copies : (s : Stage) (feed : List Item) (options : Options) → s.copied ≡ 0 → s.unloaded ≡ 0
    → AreCopies (Some s) (feed ++ Begin options s.pages ∷ [])
begun_copies s feed options none empty = (
  ap (λ (xs : List Item). length (page_copies xs))
      (since-append [] feed (Begin options s.pages ∷ [])) ∙ sym none,
  ap (λ (xs : List Item). length (copied_rows xs))
      (since-append [] feed (Begin options s.pages ∷ [])) ∙ sym empty,
)

copy_copies :
    (s t : Stage) (feed : List Item) (page : ℕ) (position : Position) (copied : List (Place × Row))
    → AreCopies (Some s) feed → CopiesOne (length copied) s t
    → AreCopies (Some t) (feed ++ PageCopy page position copied ∷ [])
copy_copies s t feed page position copied are one = (
  ap (λ (xs : List Item). length xs)
      (ap page_copies (since-append [] feed (PageCopy page position copied ∷ []))
      ∙ page_copies-append (since_begin feed) (PageCopy page position copied ∷ []))
      ∙ length-append (page_copies (since_begin feed)) (PageCopy page position copied ∷ [])
      ∙ ap (λ (n : ℕ). n + 1) are.0 ∙ sym one.1,
  ap (λ (xs : List (Place × Row)). length xs)
      (ap copied_rows (since-append [] feed (PageCopy page position copied ∷ []))
      ∙ copied_rows-append (since_begin feed) (PageCopy page position copied ∷ []))
      ∙ length-append (copied_rows (since_begin feed)) (copied ++ [])
      ∙ ap (λ (n : ℕ). length (copied_rows (since_begin feed)) + n)
      (ap (λ (xs : List (Place × Row)). length xs) (append-nil copied))
      ∙ ap (λ (n : ℕ). n + length copied) are.1 ∙ sym one.2,
)

same_copies : (old new : Option Stage) (feed : List Item) → SameCopies old new → AreCopies old feed
    → AreCopies new feed
same_copies old None feed same are = tt
same_copies None (Some t) feed same are = absurd same
same_copies (Some s) (Some t) feed same are = (are.0 ∙ sym same.1, are.1 ∙ sym same.2)

same_pages : (old new : Option Stage) → SameCopies old new → HasSamePages old new
same_pages old None same = tt
same_pages None (Some t) same = absurd same
same_pages (Some s) (Some t) same = (same.0, same.1, same.3)

-- ---- an opening

pub opening_begins : (rows : Rows) (writes : ℕ → ℕ) (copy found pages used calls : ℕ)
    (count : ChangeCount) (records : ℕ)
    → ((n : ℕ) → writes n ≡ 0) → IsCounted (opened_entry copy found pages used calls ∷ []) count
    → KeepsSent rows writes (opened_entry copy found pages used calls ∷ []) None count records []
opening_begins rows writes copy found pages used calls count records none counted = record {
  units = λ n low. none n ∙ sym (counted.writes n low);
  copies = tt;
  keeps = record { copied = 0; ordered = record { lawful = tt; below = tt }; leads = tt };
}

-- ---- a statement

-- the writes of each unit are those that the entries count
said_units : (past : List Entry) (session : Session) (stmt : Stmt) (reply : Reply)
    (writes later : ℕ → ℕ) (n : ℕ)
    → writes n ≡ unit_writes n past → later session.0 ≡ writes_after stmt reply (writes session.0)
    → ((m : ℕ) → (m ≡ session.0 → ⊥) → later m ≡ writes m) → (b : Bool) → (session.0 == n) ≡ b
    → later n ≡ (if b then writes_after stmt reply (unit_writes n past) else unit_writes n past)
said_units past session stmt reply writes later n was own others true e =
    let same : session.0 ≡ n = eqb-true session.0 n e in
    ap later (sym same) ∙ own ∙ ap (λ (m : ℕ). writes_after stmt reply (writes m)) same
    ∙ ap (writes_after stmt reply) was
said_units past session stmt reply writes later n was own others false e =
    others n (λ same. absurd (cc (e, ap (λ (m : ℕ). session.0 == m) same, nat_itself session.0)))
    ∙ was

pub said_kept : (rows new : Rows) (writes later : ℕ → ℕ) (past : List Entry) (stage : Option Stage)
    (count counted : ChangeCount) (records more : ℕ) (feed : List Item) (session : Session)
    (stmt : Stmt) (reply : Reply) (calls : ℕ) (made : List Change)
    → KeepsSent rows writes past stage count records feed → IsCounted past count
    → IsCounted (said_entry session stmt reply calls ∷ past) counted → session.0 < 256
    → records ≤ more
    → HasMoved rows new writes later (said_entry session stmt reply calls ∷ past) records more
    session stmt reply made
    → KeepsSent new later (said_entry session stmt reply calls ∷ past) stage counted more
    (feed ++ items_made (is_some stage) made)
said_kept rows new writes later past stage count counted records more feed session stmt reply calls
    made kept was is low le moved = record {
      units = λ n small. said_units past session stmt reply writes later n
          (kept.units n small ∙ was.writes n small) moved.own moved.others (session.0 == n) refl
          ∙ sym (is.writes n small);
      copies = all_made stage kept.copies;
      keeps = go stage kept.keeps;
    }
  where
    all_made : (o : Option Stage) → AreCopies o feed
        → AreCopies o (feed ++ items_made (is_some o) made)
    all_made None are = tt
    all_made (Some s) are = made_copies (Some s) feed made are

    since_is : counted.since ≡ count.since + length made
    since_is =
        is.since
        ∙ ap (λ (n : ℕ). n + made_by stmt reply (unit_writes session.0 past)) (sym was.since)
        ∙ ap (λ (n : ℕ). count.since + made_by stmt reply n)
        (sym (kept.units session.0 low ∙ was.writes session.0 low))
        ∙ ap (λ (n : ℕ). count.since + n) (sym moved.counted)

    go : (o : Option Stage) → KeepsFeed rows past o count.since records feed
        → KeepsFeed new (said_entry session stmt reply calls ∷ past) o counted.since more
        (feed ++ items_made (is_some o) made)
    go None keeps =
        subst (KeepsFeed new (said_entry session stmt reply calls ∷ past) None counted.since more)
        (sym (append-nil feed))
        (record {
          copied = keeps.copied;
          ordered = later_ordered records more keeps.copied feed keeps.ordered le;
          leads = tt;
        })
    go (Some s) keeps =
        subst
        (λ (n : ℕ). KeepsFeed new (said_entry session stmt reply calls ∷ past) (Some s) n more
        (feed ++ sent_changes made)) (sym since_is)
        (moves_sent rows new past (said_entry session stmt reply calls) (Some s) count.since records
        more feed made keeps moved.moves moved.above
        (none_hushed past (said_entry session stmt reply calls) refl) moved.loud)

-- ---- other entries

pub start_kept : (rows : Rows) (writes : ℕ → ℕ) (past now : List Entry) (old : Option Stage)
    (s : Stage) (count : ChangeCount) (records : ℕ) (options : Options) (feed : List Item)
    → KeepsSent rows writes past old count records feed
    → s.copied ≡ 0 → s.unloaded ≡ 0 → ((place : Place) → place.page ≤ 0 → rows place ≡ None)
    → ((place : Place) → s.pages < place.page → rows place ≡ None)
    → KeepsSent rows writes now (Some s) (record count { since = 0 }) records
    (feed ++ Begin options s.pages ∷ [])
start_kept rows writes past now old s count records options feed kept none empty low high = record {
  units = kept.units;
  copies = begun_copies s feed options none empty;
  keeps = start_sent rows past old s count.since records options feed kept.keeps none low high now;
}

pub copy_kept : (rows : Rows) (writes : ℕ → ℕ) (past : List Entry) (entry : Entry) (s t : Stage)
    (count : ChangeCount) (records : ℕ) (feed : List Item) (position : Position)
    (copied : List (Place × Row))
    → KeepsSent rows writes past (Some s) count records feed → s.switched ≡ false
    → CopiesOne (length copied) s t → position.0 ≡ records → AreRowsOf (s.copied + 1) copied
    → ((place : Place) → place.page ≡ s.copied + 1 → row_in copied place ≡ rows place)
    → starts_utility entry.event ≡ false
    → KeepsSent rows writes (entry ∷ past) (Some t) count records
    (feed ++ PageCopy (s.copied + 1) position copied ∷ [])
copy_kept rows writes past entry s t count records feed position copied kept unswitched has at
    of_page rows_are other = record {
      units = kept.units;
      copies = copy_copies s t feed (s.copied + 1) position copied kept.copies has;
      keeps = copy_sent rows past entry s t count.since records feed position copied kept.keeps
          unswitched (has.0, has.1, has.3) at of_page rows_are (none_hushed past entry other);
    }

pub entry_kept : (rows new : Rows) (writes later : ℕ → ℕ) (past : List Entry) (entry : Entry)
    (old stage : Option Stage) (count : ChangeCount) (records more : ℕ) (feed : List Item)
    → KeepsSent rows writes past old count records feed
    → SameCopies old stage → records ≤ more → ((place : Place) → new place ≡ rows place)
    → ((n : ℕ) → later n ≡ writes n) → starts_utility entry.event ≡ false
    → KeepsSent new later (entry ∷ past) stage count more feed
entry_kept rows new writes later past entry old stage count records more feed kept same le still
    idle other = record {
      units = λ n low. idle n ∙ kept.units n low;
      copies = same_copies old stage feed same kept.copies;
      keeps = entry_passed rows new past entry old stage count.since records more feed kept.keeps
          (same_pages old stage same) le still (none_hushed past entry other);
    }

pub switch_kept : (rows new : Rows) (writes later : ℕ → ℕ) (past now : List Entry) (old s : Stage)
    (count : ChangeCount) (records more : ℕ) (feed : List Item)
    → KeepsSent rows writes past (Some old) count records feed
    → s.switched ≡ true → s.copied ≡ old.copied → s.unloaded ≡ old.unloaded → records ≤ more
    → ((n : ℕ) → later n ≡ writes n) → KeepsSent new later now (Some s) count more feed
switch_kept rows new writes later past now old s count records more feed kept switched copied
    unloaded le idle = record {
      units = λ n low. idle n ∙ kept.units n low;
      copies = (kept.copies.0 ∙ sym copied, kept.copies.1 ∙ sym unloaded);
      keeps = switch_passed rows new past now (Some old) s count.since records more feed kept.keeps
          switched le;
    }
