use Rattle.std.proofs.Common.{◌≡◌, ◌∙◌, ◌≤◌, ℕ, true, List, [], map, ap, arith, drop, length}
use Rattle.std.proofs.Common.{length-drop, subst}
use Rattle.rg_base.specs.declared.change.Change.{Change}
use Rattle.rg_base.specs.declared.place.Place.{Place}
use Rattle.rg_feed.specs.Ends.{Received}
use Rattle.rg_feed.specs.Fold.Fold.{changes, since_begin}
use Rattle.rg_feed.specs.Fold.Last.{applied_at, last_at}
use Rattle.rg_model.specs.Layout.{are_rising}
use Rattle.rg_shadow.specs.Shade.{Shade, source_rows}
use Rattle.rg_translate.specs.Backlog.{next_changes, to_make}
use Rattle.rg_translate.specs.Caught.{ClaimsMore, IsFullBy, IsRefusedLast, IsRefusedOf, Unmoved}
use Rattle.rg_translate.proofs.Making.{caught_up, idle_by, refused_by, unmoved_by}
use Rattle.rg_translate.proofs.Weighing.{net_claims, net_full}
use Rattle.rg_translate.proofs.catch_up.catch_up.Goals as goal

unmoved : (old new : Shade) (inlet : Received) (n m : ℕ) (batch net made : List Change) → n ≡ m
    → batch ≡ to_make n inlet → made ≡ net
    → ((place : Place) → last_at place net ≡ last_at place batch)
    → Unmoved old new made → Unmoved old new (next_changes m inlet)
unmoved old new inlet n m batch net made count batch_is made_is last same =
    subst (λ (k : ℕ). Unmoved old new (next_changes k inlet)) count
    (unmoved_by old new inlet n net (λ place. last place ∙ ap (last_at place) batch_is)
    (subst (Unmoved old new) made_is same))

idle : (old new : Shade) (inlet : Received) (n m : ℕ) (batch net made : List Change) → n ≡ m
    → batch ≡ to_make n inlet → made ≡ net
    → ((place : Place) → last_at place net ≡ last_at place batch)
    → (made ≡ [] → new ≡ old) → to_make m inlet ≡ [] → new ≡ old
idle old new inlet n m batch net made count batch_is made_is last same none =
    idle_by old new batch net last (λ e. same (made_is ∙ e))
    (batch_is ∙ ap (λ k. to_make k inlet) count ∙ none)

rising : (made net : List Change) → made ≡ net
    → are_rising (map (λ (c : Change). c.home) net) ≡ true
    → are_rising (map (λ (c : Change). c.home) made) ≡ true
rising made net is e =
    ap (λ (cs : List Change). are_rising (map (λ (c : Change). c.home) cs)) is ∙ e

pub returns-clause-caught : goal.returns-clause-caught
returns-clause-caught c =
    let inlet = c.args.inlet.now in
    let n = c.next_count-count.result in
    let net = c.in_ok-changes.changes.items in
    let all = changes (since_begin inlet.items) in
    let within : n ≤ length (drop inlet.taken all) =
    omega (arith, c.next_count-count.ensures.within, length-drop inlet.taken all) in
    let batch : c.as_slice.result.now ≡ to_make n inlet =
    c.as_slice.ensures.value ∙ c.in_ok-batch.ensures.batch in
    caught_up c.args.shadow.now c.make_changes.new.shadow inlet c.take_batch.new.inlet n net
    c.requires.lawful c.requires.caught within
    c.in_ok-batch.ensures.same.items c.in_ok-batch.ensures.taken
    (λ place row. c.in_ok-changes.ensures.fold place row
    ∙ ap (λ (cs : List Change). applied_at place cs row) batch)
    (λ place. subst
    (λ (cs : List Change). source_rows c.make_changes.new.shadow place
    ≡ applied_at place cs (source_rows c.args.shadow.now place)) c.as_slice-2.ensures.value
    (c.in-Ok.ensures.rows place))

pub returns-clause-unmoved : goal.returns-clause-unmoved
returns-clause-unmoved c =
    unmoved c.args.shadow.now c.make_changes.new.shadow c.args.inlet.now c.next_count-count.result _
    c.as_slice.result.now c.in_ok-changes.changes.items c.as_slice-2.result.now
    c.next_count-count.ensures.count (c.as_slice.ensures.value ∙ c.in_ok-batch.ensures.batch)
    c.as_slice-2.ensures.value c.in_ok-changes.ensures.last c.in-Ok.ensures.unmoved

pub returns-clause-stays : goal.returns-clause-stays
returns-clause-stays c = c.in-Ok.ensures.stays
    (rising c.as_slice-2.result.now c.in_ok-changes.changes.items c.as_slice-2.ensures.value
    c.in_ok-changes.ensures.homes)

pub returns-clause-idle : goal.returns-clause-idle
returns-clause-idle c =
    idle c.args.shadow.now c.make_changes.new.shadow c.args.inlet.now c.next_count-count.result _
    c.as_slice.result.now c.in_ok-changes.changes.items c.as_slice-2.result.now
    c.next_count-count.ensures.count (c.as_slice.ensures.value ∙ c.in_ok-batch.ensures.batch)
    c.as_slice-2.ensures.value c.in_ok-changes.ensures.last c.in-Ok.ensures.idle

pub returns-in-Err-clause-unmoved : goal.returns-in-Err-clause-unmoved
returns-in-Err-clause-unmoved c =
    unmoved c.args.shadow.now c.make_changes.new.shadow c.args.inlet.now c.next_count-count.result _
    c.as_slice.result.now c.in_ok-changes.changes.items c.as_slice-2.result.now
    c.next_count-count.ensures.count (c.as_slice.ensures.value ∙ c.in_ok-batch.ensures.batch)
    c.as_slice-2.ensures.value c.in_ok-changes.ensures.last c.in-Err.ensures.unmoved

pub returns-in-Err-clause-stays : goal.returns-in-Err-clause-stays
returns-in-Err-clause-stays c = c.in-Err.ensures.stays
    (rising c.as_slice-2.result.now c.in_ok-changes.changes.items c.as_slice-2.ensures.value
    c.in_ok-changes.ensures.homes)

pub returns-in-Err-clause-idle : goal.returns-in-Err-clause-idle
returns-in-Err-clause-idle c =
    idle c.args.shadow.now c.make_changes.new.shadow c.args.inlet.now c.next_count-count.result _
    c.as_slice.result.now c.in_ok-changes.changes.items c.as_slice-2.result.now
    c.next_count-count.ensures.count (c.as_slice.ensures.value ∙ c.in_ok-batch.ensures.batch)
    c.as_slice-2.ensures.value c.in_ok-changes.ensures.last c.in-Err.ensures.idle

pub returns-in-Err-clause-refused : goal.returns-in-Err-clause-refused
returns-in-Err-clause-refused c =
    let inlet = c.args.inlet.now in
    let batch : c.as_slice.result.now ≡ to_make c.next_count-count.result inlet =
    c.as_slice.ensures.value ∙ c.in_ok-batch.ensures.batch in
    subst (λ (n : ℕ). IsRefusedLast c.make_changes.new.shadow (to_make n inlet) c.in-Err.fault)
    c.next_count-count.ensures.count
    (subst (λ (cs : List Change). IsRefusedLast c.make_changes.new.shadow cs c.in-Err.fault) batch
    (refused_by c.make_changes.new.shadow c.as_slice.result.now c.in_ok-changes.changes.items
    c.in-Err.fault c.in_ok-changes.ensures.homes c.in_ok-changes.ensures.last
    (subst (λ (cs : List Change). IsRefusedOf c.make_changes.new.shadow cs c.in-Err.fault)
    c.as_slice-2.ensures.value c.in-Err.ensures.refused)))

pub returns-clause-claims : goal.returns-clause-claims
returns-clause-claims c =
    let inlet = c.args.inlet.now in
    let batch : c.as_slice.result.now ≡ to_make c.next_count-count.result inlet =
    c.as_slice.ensures.value ∙ c.in_ok-batch.ensures.batch in
    subst (λ (n : ℕ). ClaimsMore c.args.shadow.now c.make_changes.new.shadow (to_make n inlet))
    c.next_count-count.ensures.count
    (subst (λ (cs : List Change). ClaimsMore c.args.shadow.now c.make_changes.new.shadow cs) batch
    (net_claims c.args.shadow.now c.make_changes.new.shadow c.in_ok-changes.changes.items
    c.as_slice.result.now c.in_ok-changes.ensures.homes c.in_ok-changes.ensures.last
    (subst (λ (cs : List Change). ClaimsMore c.args.shadow.now c.make_changes.new.shadow cs)
    c.as_slice-2.ensures.value c.in-Ok.ensures.claims)))

pub returns-in-Err-clause-full : goal.returns-in-Err-clause-full
returns-in-Err-clause-full c =
    let inlet = c.args.inlet.now in
    let batch : c.as_slice.result.now ≡ to_make c.next_count-count.result inlet =
    c.as_slice.ensures.value ∙ c.in_ok-batch.ensures.batch in
    subst (λ (n : ℕ). IsFullBy c.args.shadow.now (to_make n inlet) c.in-Err.fault)
    c.next_count-count.ensures.count
    (subst (λ (cs : List Change). IsFullBy c.args.shadow.now cs c.in-Err.fault) batch
    (net_full c.args.shadow.now c.in_ok-changes.changes.items c.as_slice.result.now c.in-Err.fault
    c.in_ok-changes.ensures.homes c.in_ok-changes.ensures.last
    (subst (λ (cs : List Change). IsFullBy c.args.shadow.now cs c.in-Err.fault)
    c.as_slice-2.ensures.value c.in-Err.ensures.full)))
