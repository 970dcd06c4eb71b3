-- What is made stays made of what was received, as more is sent and received.
use Rattle.std.proofs.Common.{◌≡◌, inl, inr, ◌≤◌, ◌++◌, ℕ, List, [], ◌∷◌, Option, Some, None}
use Rattle.std.proofs.Common.{length, refl}
use Rattle.std.proofs.Common.{sym, ◌∙◌, ap, subst, arith, append-nil, append_assoc, length-append}
use Rattle.std.proofs.lemmas.List.{append_cancel_left}
use Rattle.std.specs.List.{AllByRecursion}
use Rattle.std.specs.List.Sorted.{IsPermutation}
use Rattle.rg_base.specs.declared.change.Change.{Change}
use Rattle.rg_base.specs.Copies.{other_of}
use Rattle.rg_base.specs.declared.options.DrainState.{DrainState}
use Rattle.rg_base.specs.declared.options.Options.{Options}
use Rattle.rg_desk.specs.Desk.{DeskState}
use Rattle.rg_outside.specs.Capacities.{Capacities}
use Rattle.rg_image.specs.Rules.{copy_capacity}
use Rattle.rg_model.specs.State.{Utility}
use Rattle.rg_outside.specs.Volume.{VolumeSeen}
use Rattle.rg_rules.specs.Stage.NumbersOf.{numbers_of}
use Rattle.rg_base.specs.declared.place.Place.{Place}
use Rattle.rg_base.specs.declared.row.Row.{Row}
use Rattle.rg_translate.proofs.RightCopyLemmas.Taking.{more_received}
use Rattle.rg_engine.specs.Prepared.{while_running}
use Rattle.rg_engine.specs.Prepared.{PreparedSeen}
use Rattle.rg_feed.specs.Ends.{Grew, Received, SameReceived, still_taken}
use Rattle.rg_feed.specs.Fold.Fold.{changes, copied_rows, since_begin}
use Rattle.rg_feed.specs.declared.fold.item.Item.{Item}
use Rattle.rg_feed.specs.declared.fold.item.Item.TheVariants.{Begin, PageCopy, Booked}
use Rattle.rg_feed.specs.declared.fold.item.Item.TheVariants.{Change as OneChange}
use Rattle.rg_feed.specs.declared.fold.item.Stage.{Stage}
use Rattle.rg_feed.proofs.FoldLemmas.Folds.{changes-append}
use Rattle.rg_reload.specs.Reloading.{Reloading}
use Rattle.rg_engine.specs.ChangeFeed.Sending.{AddsChanges}
use Rattle.rg_engine.proofs.ChangeFeedLemmas.Keeping.{copied_rows-append, no_rows, since_made}
use Rattle.rg_engine.proofs.ChangeFeedLemmas.Walking.{sent_changes-append}
use Rattle.rg_feed.specs.SentItems.Keeps.{sent_changes}
use Rattle.rg_shadow.specs.Shade.{Shade}
use Rattle.rg_translate.specs.Laws.{IsLater}
use Rattle.rg_phase.specs.Drafted.{IsDraftOf, IsPackingOf}
use Rattle.rg_phase.specs.Made.{HasMade, IsAddedTo, IsBehind, IsMadeAt, WillHave, Works}
use Rattle.rg_phase.specs.declared.made.Made.{Made}
use Rattle.rg_phase.specs.declared.made.Made.TheVariants.{Nothing, Packing, Drafted, Written}

-- ---- changes alone were added

still_same : (made : List Change) (n : ℕ) → still_taken (sent_changes made) n ≡ n
still_same [] n = refl
still_same (x ∷ xs) n = still_same xs n

all_later : (made : List Change) → AllByRecursion IsLater (sent_changes made)
all_later [] = tt
all_later (x ∷ xs) = (tt, all_later xs)

pub none_added : (feed : List Item) → AddsChanges feed feed
none_added feed = ([], sym (append-nil feed))

pub added_is : (items feed : List Item) → items ≡ feed → AddsChanges items feed
added_is items feed is = ([], sym is ∙ sym (append-nil items))

pub added_both : (a b c : List Item) → AddsChanges a b → AddsChanges b c → AddsChanges a c
added_both a b c first next = (
  first.0 ++ next.0,
  next.1 ∙ ap (λ (xs : List Item). xs ++ sent_changes next.0) first.1
      ∙ append_assoc a (sent_changes first.0) (sent_changes next.0)
      ∙ ap (λ (xs : List Item). a ++ xs) (sym (sent_changes-append first.0 next.0)),
)

same_copied : (items feed : List Item) → AddsChanges items feed
    → copied_rows (since_begin feed) ≡ copied_rows (since_begin items)
same_copied items feed adds =
    ap (λ (xs : List Item). copied_rows (since_begin xs)) adds.1
    ∙ ap copied_rows (since_made items adds.0)
    ∙ copied_rows-append (since_begin items) (sent_changes adds.0)
    ∙ ap (λ (rows : List (Place × Row)). copied_rows (since_begin items) ++ rows) (no_rows adds.0)
    ∙ append-nil (copied_rows (since_begin items))

more_changes : (items feed : List Item) → AddsChanges items feed
    → length (changes (since_begin items)) ≤ length (changes (since_begin feed))
more_changes items feed adds =
    omega (
      arith,
      ap (λ (xs : List Item). length (changes (since_begin xs))) adds.1,
      ap (λ (xs : List Item). length (changes xs)) (since_made items adds.0),
      ap (λ (cs : List Change). length cs)
          (changes-append (since_begin items) (sent_changes adds.0)),
      length-append (changes (since_begin items)) (changes (sent_changes adds.0)),
    )

-- nothing more was taken
taken_same : (inlet later : Received) (feed : List Item) → AddsChanges inlet.items feed
    → Grew inlet later → later.items ≡ feed → later.taken ≡ inlet.taken
taken_same inlet later feed adds grew is =
    let more : grew.more ≡ sent_changes adds.0 =
    append_cancel_left inlet.items grew.more (sent_changes adds.0) (sym grew.items ∙ is ∙ adds.1) in
    grew.taken ∙ ap (λ (xs : List Item). still_taken xs inlet.taken) more
    ∙ still_same adds.0 inlet.taken

-- ---- more is received

pub draft_more : (options : Options) (s : Shade) (items feed : List Item) (taken : ℕ)
    → AddsChanges items feed → IsDraftOf options s items taken → IsDraftOf options s feed taken
draft_more options s items feed taken adds h = record {
  rows = h.rows;
  first = h.first;
  moved = subst (λ (rows : List (Place × Row)). IsPermutation rows h.rows)
      (sym (same_copied items feed adds)) h.moved;
  order = h.order;
  caught = more_received options h.rows h.first s items feed taken
      (record { more = sent_changes adds.0; items = adds.1; later = all_later adds.0 }) h.within
      h.caught;
  within = omega (arith, h.within, more_changes items feed adds);
}

packing_more : (options : Options) (p : Reloading) (items feed : List Item) (taken : ℕ)
    → AddsChanges items feed → IsPackingOf options p items taken → IsPackingOf options p feed taken
packing_more options p items feed taken adds h = record {
  options_are = h.options_are;
  moved = subst (λ (rows : List (Place × Row)). IsPermutation rows p.rows)
      (sym (same_copied items feed adds)) h.moved;
  order = h.order;
  none = h.none;
}

draft_heard : (options : Options) (s : Shade) (inlet later : Received) (feed : List Item)
    → AddsChanges inlet.items feed → Grew inlet later → later.items ≡ feed
    → IsDraftOf options s inlet.items inlet.taken → IsDraftOf options s later.items later.taken
draft_heard options s inlet later feed adds grew is h =
    subst (λ (xs : List Item). IsDraftOf options s xs later.taken) (sym is)
    (subst (IsDraftOf options s feed) (sym (taken_same inlet later feed adds grew is))
    (draft_more options s inlet.items feed inlet.taken adds h))

-- what is made is so of what was received, where no more was

packing_same :
    (options : Options) (p : Reloading) (inlet later : Received) → SameReceived inlet later
    → IsPackingOf options p inlet.items inlet.taken → IsPackingOf options p later.items later.taken
packing_same options p inlet later same is =
    subst (λ (n : ℕ). IsPackingOf options p later.items n) (sym same.taken)
    (subst (λ (xs : List Item). IsPackingOf options p xs inlet.taken) (sym same.items) is)

draft_received :
    (options : Options) (s : Shade) (inlet later : Received) → SameReceived inlet later
    → IsDraftOf options s inlet.items inlet.taken → IsDraftOf options s later.items later.taken
draft_received options s inlet later same is =
    subst (λ (n : ℕ). IsDraftOf options s later.items n) (sym same.taken)
    (subst (λ (xs : List Item). IsDraftOf options s xs inlet.taken) (sym same.items) is)

module _ (u : Utility) (d : DrainState) (copy capacity : ℕ) where
  has_heard : (made : Made) (kept : Option PreparedSeen) (inlet later : Received)
      (feed : List Item) → IsAddedTo made inlet.items feed → Grew inlet later
      → later.items ≡ feed → HasMade u d copy capacity made kept inlet
      → HasMade u d copy capacity made kept later
  has_heard Nothing kept inlet later feed adds grew is h = h
  has_heard (Packing p) kept inlet later feed adds grew is h = (
    h.0,
    h.1,
    h.2,
    subst (λ (xs : List Item). IsPackingOf p.options p.packer xs later.taken) (sym is)
        (subst (IsPackingOf p.options p.packer feed)
        (sym (taken_same inlet later feed adds grew is))
        (packing_more p.options p.packer inlet.items feed inlet.taken adds h.3)),
  )
  has_heard (Drafted x) kept inlet later feed adds grew is h =
      (h.0, h.1, h.2, draft_heard x.options x.shadow inlet later feed adds grew is h.3)
  has_heard (Written options) None inlet later feed adds grew is h = absurd h
  has_heard (Written options) (Some p) inlet later feed adds grew is h =
      (h.0, draft_heard options p.shade inlet later feed adds grew is h.1)

  has_same : (made : Made) (kept : Option PreparedSeen) (inlet later : Received)
      → SameReceived inlet later → HasMade u d copy capacity made kept inlet
      → HasMade u d copy capacity made kept later
  has_same Nothing kept inlet later same h = h
  has_same (Packing p) kept inlet later same h =
      (h.0, h.1, h.2, packing_same p.options p.packer inlet later same h.3)
  has_same (Drafted x) kept inlet later same h =
      (h.0, h.1, h.2, draft_received x.options x.shadow inlet later same h.3)
  has_same (Written options) None inlet later same h = absurd h
  has_same (Written options) (Some p) inlet later same h =
      (h.0, draft_received options p.shade inlet later same h.1)

-- ---- all that was sent is received

none_more : (items feed more : List Item) → feed ≡ items ++ more → items ≡ feed → more ≡ []
none_more items feed more sent is =
    append_cancel_left items more [] (sym sent ∙ sym is ∙ sym (append-nil items))

pub all_taken_by : (inlet : Received) (feed : List Item) (done : ℕ) → inlet.items ≡ feed
    → WillHave inlet feed done → inlet.taken ≡ done
all_taken_by inlet feed done is will =
    ap (λ (xs : List Item). still_taken xs inlet.taken)
    (sym (none_more inlet.items feed will.more will.items is))
    ∙ will.taken

pub has_all : (inlet : Received) (feed : List Item) (done : ℕ) → inlet.items ≡ feed
    → inlet.taken ≡ done → WillHave inlet feed done
has_all inlet feed done is taken = record {
  more = [];
  items = sym is ∙ sym (append-nil inlet.items);
  taken = taken;
}

taken_then : (inlet later : Received) (feed : List Item) (done : ℕ) → Grew inlet later
    → later.items ≡ feed → WillHave inlet feed done → later.taken ≡ done
taken_then inlet later feed done grew is will =
    let more : grew.more ≡ will.more =
    append_cancel_left inlet.items grew.more will.more (sym grew.items ∙ is ∙ will.items) in
    grew.taken ∙ ap (λ (xs : List Item). still_taken xs inlet.taken) more ∙ will.taken

pub added_all : (made : Made) (items feed : List Item) → items ≡ feed → IsAddedTo made items feed
added_all Nothing items feed is = tt
added_all (Packing p) items feed is = added_is items feed is
added_all (Drafted d) items feed is = added_is items feed is
added_all (Written options) items feed is = added_is items feed is

added_same : (made : Made) (items later feed : List Item) → later ≡ items
    → IsAddedTo made items feed → IsAddedTo made later feed
added_same made items later feed is h =
    subst (λ (xs : List Item). IsAddedTo made xs feed) (sym is) h

added_more : (made : Made) (items feed more : List Item) → AddsChanges feed more
    → IsAddedTo made items feed → IsAddedTo made items more
added_more Nothing items feed more adds h = tt
added_more (Packing p) items feed more adds h = added_both items feed more h adds
added_more (Drafted d) items feed more adds h = added_both items feed more h adds
added_more (Written options) items feed more adds h = added_both items feed more h adds

still_added : (xs : List Item) (made : List Change) (n : ℕ)
    → still_taken (xs ++ sent_changes made) n ≡ still_taken xs n
still_added [] made n = still_same made n
still_added (Begin options pages ∷ xs) made n = still_added xs made 0
still_added (PageCopy page position rows ∷ xs) made n = still_added xs made n
still_added (OneChange change ∷ xs) made n = still_added xs made n
still_added (Booked stage ∷ xs) made n = still_added xs made n

will_more : (inlet : Received) (feed more : List Item) (done : ℕ) → AddsChanges feed more
    → WillHave inlet feed done → WillHave inlet more done
will_more inlet feed more done adds will = record {
  more = will.more ++ sent_changes adds.0;
  items = adds.1 ∙ ap (λ (xs : List Item). xs ++ sent_changes adds.0) will.items
      ∙ append_assoc inlet.items will.more (sent_changes adds.0);
  taken = still_added will.more adds.0 inlet.taken ∙ will.taken;
}

-- ---- behind what was sent

pub behind_all : (items feed : List Item) → items ≡ feed → IsBehind items feed
behind_all items feed is = ([], sym is ∙ sym (append-nil items))

behind_same : (items later feed : List Item) → later ≡ items → IsBehind items feed
    → IsBehind later feed
behind_same items later feed is h =
    subst (λ (xs : List Item). IsBehind xs feed) (sym is) h

pub behind_sent : (items feed more added : List Item) → more ≡ feed ++ added
    → IsBehind items feed → IsBehind items more
behind_sent items feed more added sent h = (
  h.0 ++ added,
  sent ∙ ap (λ (xs : List Item). xs ++ added) h.1 ∙ append_assoc items h.0 added,
)

module _ (o : Option Stage) (copy capacity : ℕ) (made : Made) (kept : Option PreparedSeen) where
  pub works_heard : (inlet later : Received) (feed : List Item)
      → Grew inlet later → later.items ≡ feed → IsMadeAt o copy capacity made kept inlet feed
      → IsMadeAt o copy capacity made kept later feed
  works_heard inlet later feed grew is h = of_stage o h
    where
      of_stage : (o : Option Stage) → IsMadeAt o copy capacity made kept inlet feed
          → IsMadeAt o copy capacity made kept later feed
      of_stage None h = (h.0, behind_all later.items feed is)
      of_stage (Some s) (inr h) = inr
          (record {
            switched = h.switched;
            made_is = h.made_is;
            none = h.none;
            behind = behind_all later.items feed is;
          })
      of_stage (Some s) (inl h) = inl
          (record {
            unswitched = h.unswitched;
            copied = h.copied;
            made_is =
                has_heard (numbers_of s) s.drain copy capacity made kept inlet later feed h.added
                grew is h.made_is;
            added = added_all made later.items feed is;
            heard =
                has_all later feed s.done is (taken_then inlet later feed s.done grew is h.heard);
          })

  pub works_same : (inlet later : Received) (feed : List Item)
      → SameReceived inlet later → IsMadeAt o copy capacity made kept inlet feed
      → IsMadeAt o copy capacity made kept later feed
  works_same inlet later feed same h = of_stage o h
    where
      of_stage : (o : Option Stage) → IsMadeAt o copy capacity made kept inlet feed
          → IsMadeAt o copy capacity made kept later feed
      of_stage None h = (h.0, behind_same inlet.items later.items feed same.items h.1)
      of_stage (Some s) (inr h) = inr
          (record {
            switched = h.switched;
            made_is = h.made_is;
            none = h.none;
            behind = behind_same inlet.items later.items feed same.items h.behind;
          })
      of_stage (Some s) (inl h) = inl
          (record {
            unswitched = h.unswitched;
            copied = h.copied;
            made_is =
                has_same (numbers_of s) s.drain copy capacity made kept inlet later same h.made_is;
            added = added_same made inlet.items later.items feed same.items h.added;
            heard = record {
              more = h.heard.more;
              items =
                  h.heard.items
                  ∙ ap (λ (xs : List Item). xs ++ h.heard.more) (sym same.items);
              taken = ap (still_taken h.heard.more) same.taken ∙ h.heard.taken;
            };
          })

  -- ---- more is sent

  pub works_more : (inlet : Received) (feed more : List Item)
      → AddsChanges feed more → IsMadeAt o copy capacity made kept inlet feed
      → IsMadeAt o copy capacity made kept inlet more
  works_more inlet feed more adds h = of_stage o h
    where
      of_stage : (o : Option Stage) → IsMadeAt o copy capacity made kept inlet feed
          → IsMadeAt o copy capacity made kept inlet more
      of_stage None h =
          (h.0, behind_sent inlet.items feed more (sent_changes adds.0) adds.1 h.1)
      of_stage (Some s) (inr h) = inr
          (record {
            switched = h.switched;
            made_is = h.made_is;
            none = h.none;
            behind =
                behind_sent inlet.items feed more (sent_changes adds.0) adds.1 h.behind;
          })
      of_stage (Some s) (inl h) = inl
          (record {
            unswitched = h.unswitched;
            copied = h.copied;
            made_is = h.made_is;
            added = added_more made inlet.items feed more adds h.added;
            heard = will_more inlet feed more s.done adds h.heard;
          })

  pub works_while : (inlet : Received) (feed : List Item)
      → IsMadeAt o copy capacity made kept inlet feed
      → IsMadeAt o copy capacity made (while_running o kept) inlet feed
  works_while inlet feed h = of_stage o h
    where
      of_stage : (o : Option Stage) → IsMadeAt o copy capacity made kept inlet feed
          → IsMadeAt o copy capacity made (while_running o kept) inlet feed
      of_stage None h = (refl, h.1)
      of_stage (Some s) h = h

-- ---- over a desk

-- another desk at the same stage, with the same new copy and the same items
pub works_moved : {V O : Type 0} (look : V → VolumeSeen) (made : Made) (inlet : Received)
    (old new : DeskState V O) → new.stage ≡ old.stage → new.copy ≡ old.copy
    → (look new.volume).capacities ≡ (look old.volume).capacities → new.shadow ≡ old.shadow
    → new.feed ≡ old.feed → Works look made inlet old → Works look made inlet new
works_moved look made inlet old new stage copy capacities shadow feed works =
    subst
    (λ (n : ℕ). IsMadeAt new.stage (other_of n)
    (copy_capacity (look new.volume).capacities (other_of n)) made new.shadow inlet new.feed)
    (sym copy)
    (subst
    (λ (x : Capacities). IsMadeAt new.stage (other_of old.copy)
    (copy_capacity x (other_of old.copy)) made new.shadow inlet new.feed) (sym capacities)
    (subst
    (λ (k : Option PreparedSeen). IsMadeAt new.stage (other_of old.copy)
    (copy_capacity (look old.volume).capacities (other_of old.copy)) made k inlet new.feed)
    (sym shadow)
    (subst
    (λ (xs : List Item). IsMadeAt new.stage (other_of old.copy)
    (copy_capacity (look old.volume).capacities (other_of old.copy)) made old.shadow inlet xs)
    (sym feed)
    (subst
    (λ (o : Option Stage). IsMadeAt o (other_of old.copy)
    (copy_capacity (look old.volume).capacities (other_of old.copy)) made old.shadow inlet
    old.feed)
    (sym stage) works))))
