-- The changes of records, one record after the other.
use Rattle.std.proofs.Common.{◌≡◌, ◌<◌, ◌+◌, ◌++◌, ℕ, List, [], ◌∷◌, Option, length, take, drop}
use Rattle.std.proofs.Common.{get_or, refl, sym, ◌∙◌, ap, append_assoc}
use Rattle.std.proofs.lemmas.List.{drop_more, take_more, append-nil}
use Rattle.rg_base.specs.declared.change.Change.{Change}
use Rattle.rg_base.specs.declared.row.Row.{Row}
use Rattle.rg_laws_utility.specs.RecordChanges.Changed.{changes_at, changes_in, rows_after}
use Rattle.rg_feed.specs.declared.fold.item.Item.{Item}
use Rattle.rg_feed.specs.declared.fold.item.Item.TheVariants as items
use Rattle.rg_record.specs.declared.record.Record.{Record}
use Rattle.rg_feed.specs.SentItems.Keeps.{sent_changes}

changes_in-append : (xs ys : List Record) → changes_in (xs ++ ys) ≡ changes_in xs ++ changes_in ys
changes_in-append [] ys = refl
changes_in-append (entry ∷ xs) ys =
    ap (λ (more : List Change). changes_at entry.position entry.kind ++ more)
    (changes_in-append xs ys)
    ∙ sym (append_assoc (changes_at entry.position entry.kind) (changes_in xs) (changes_in ys))

pub sent_changes-append : (xs ys : List Change)
    → sent_changes (xs ++ ys) ≡ sent_changes xs ++ sent_changes ys
sent_changes-append [] ys = refl
sent_changes-append (x ∷ xs) ys =
    ap (λ (more : List Item). items.Change x ∷ more) (sent_changes-append xs ys)

-- the rows that are left are those of the next record, and of the records after it
pub rows_next : (records : List Record) (i : ℕ) (entry : Record) (rows : List (Option Row))
    → i < length records → entry ≡ get_or records i entry
    → rows ≡ rows_after (changes_in (drop i records))
    → rows ≡ rows_after (changes_at entry.position entry.kind ++ changes_in (drop (i + 1) records))
rows_next records i entry rows low is left =
    left ∙ ap (λ (rs : List Record). rows_after (changes_in rs)) (drop_more records i entry low)
    ∙ ap
    (λ (r : Record). rows_after (changes_at r.position r.kind ++ changes_in (drop (i + 1) records)))
    (sym is)

-- what was sent is that of one record more
pub sent_next : (records : List Record) (i : ℕ) (entry : Record) (base before after : List Item)
    → i < length records → entry ≡ get_or records i entry
    → before ≡ base ++ sent_changes (changes_in (take i records))
    → after ≡ before ++ sent_changes (changes_at entry.position entry.kind)
    → after ≡ base ++ sent_changes (changes_in (take (i + 1) records))
sent_next records i entry base before after low is so_far adds =
    adds ∙ ap (λ (xs : List Item). xs ++ sent_changes (changes_at entry.position entry.kind)) so_far
    ∙ append_assoc base (sent_changes (changes_in (take i records)))
    (sent_changes (changes_at entry.position entry.kind))
    ∙ ap (λ (xs : List Item). base ++ xs)
    (sym (sent_changes-append (changes_in (take i records)) (changes_at entry.position entry.kind))
    ∙ ap (λ (cs : List Change). sent_changes (changes_in (take i records) ++ cs))
    (sym (append-nil (changes_at entry.position entry.kind)))
    ∙ ap sent_changes (sym (changes_in-append (take i records) (entry ∷ [])))
    ∙ ap (λ (r : Record). sent_changes (changes_in (take i records ++ r ∷ []))) is
    ∙ ap (λ (rs : List Record). sent_changes (changes_in rs)) (sym (take_more records i entry low)))
