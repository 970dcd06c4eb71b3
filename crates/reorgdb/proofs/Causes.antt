-- The contract of a call follows from what it comes to.
use Rattle.std.proofs.Common.{Bool, ◌≡◌, ◌≢◌, ◌<◌, ◌≤◌, ◌+◌, ◌⊎◌, inl, inr, ℕ, zero, suc, ◌-◌, ◌^◌}
use Rattle.std.proofs.Common.{slice_index_or, List, [], ◌∷◌, ◌++◌, Option, Some, None, length, refl}
use Rattle.std.proofs.Common.{sym, ◌∙◌, ap, subst, arith, append-nil, length-append}
use Rattle.std.specs.List.{AllByRecursion, Contains}
use Rattle.std.specs.Io.KnownBytes.{Consumes, Appends, IsAtEnd}
use Rattle.rg_base.specs.declared.set.Set.{Set}
use Rattle.rg_deck.specs.declared.read.TheConstants.{DECK_LIMIT}
use Rattle.rg_outside.specs.Faults.{Rose}
use Rattle.rg_outside.specs.Capacities.{Capacities}
use Rattle.rg_run.specs.Outside.{IfBoth, IfCounted, IsEnd, MadeSince, WasUntidy}
use Rattle.rg_deck.specs.Grammar.{Lines}
use Rattle.rg_deck.specs.declared.read.Admits.TheVariants.{Every}
use Rattle.rg_deck.proofs.Readings.{one_reading}
use Rattle.rg_print.specs.declared.print.Close.TheVariants as closes
use Rattle.rg_run.specs.Played.{TraceOf}
use Rattle.rg_run.specs.Table.{EndsWhole}
use Rattle.rg_run.specs.declared.played.RunEnd.TheVariants as ends
use Rattle.rg_log.proofs.Ready.{quiet_reads}
use Rattle.rg_run.proofs.Fullness.{run_less}
use Rattle.rg_restart.specs.Sound.{IsDamage}
use Rattle.rg_restart.proofs.Exact.{sound_breaks_none}
use Rattle.rg_log.specs.Open.{IsQuiet}
use Rattle.rg_outside.specs.Calls.{Image, Told, read_of}
use Rattle.rg_engine.specs.OnVolume.{IsTidyVolume}
use Rattle.rg_outside.specs.Volume.{VolumeSeen}
use Rattle.rg_stmt.specs.declared.event.Entry.{Entry}
use Rattle.rg_stmt.specs.declared.line.Line.{Line}
use Rattle.rg_gen.specs.Deck.{IsOfSessions, deck_of}
use Rattle.rg_gen.proofs.Sessions.{each_of_sessions}
use Rattle.rg_stmt.specs.declared.line.Line.TheVariants.{Death}
use Rattle.rg_words.specs.Spelling.{Spells, command_word}
use Rattle.rg_words.specs.declared.words.Words.{Words as Asked}
use Rattle.rg_words.specs.declared.words.Words.TheVariants as asks
use Rattle.rg_words.proofs.Once.{one_command}
use Rattle.reorgdb.specs.Answer.{Seen, AsksDeck, IsPlay, IsJudge, IsGen, IsShow, IsCommand}
use Rattle.reorgdb.specs.Answer.{ReadsDeck, Comes, Concludes, DealsWithBytes, DealsWithLines}
use Rattle.reorgdb.specs.Answer.{EndsAtDeath, Finds, MakesTo, PlaysTo, ShowsTo, TakesDeck}
use Rattle.reorgdb.specs.Answer.{NeedsNoDeck, output_of}
use Rattle.reorgdb.specs.Causes.{IsSoundVolume, Plays, Judges, Sums, Shows, RefusesDeck}
use Rattle.reorgdb.specs.Causes.{RefusesVolume, FailsVolume, IsDue, IsDueDeck, GivesDue}
use Rattle.reorgdb.specs.Telling.{TellsRun}
use Rattle.reorgdb.specs.Traced.{Traced}
use Rattle.reorgdb.specs.Contract.{Completes}
use Rattle.reorgdb.specs.Reading.{TakesAtMost, TakesTooMany}
use Rattle.reorgdb.specs.Refusals.{status_of, fixed_text}
use Rattle.reorgdb.specs.declared.outcome.Outcome.{Outcome}
use Rattle.reorgdb.specs.declared.outcome.Outcome.TheVariants.{Played, Down, Shown, Words, Deck}
use Rattle.reorgdb.specs.declared.outcome.Outcome.TheVariants.{Source, Damaged, Device, Long}
use Rattle.reorgdb.specs.declared.outcome.Outcome.TheVariants.{NoMemory}
use Rattle.reorgdb.specs.declared.telling.Tells.{Tells}
use Rattle.reorgdb.specs.declared.telling.Tells.TheVariants.{Print, Verdict, Summary}

not_four : (a : Outcome) → status_of a ≢ 4
not_four Played e = omega arith
not_four Down e = omega arith
not_four Shown e = omega arith
not_four Words e = omega arith
not_four (Deck line) e = omega arith
not_four Source e = omega arith
not_four (Damaged set page) e = omega arith
not_four Device e = omega arith
not_four Long e = omega arith
not_four NoMemory e = omega arith

-- ---- words

-- two commands that the same words ask for have the same first word
same_word : (words : List (List ℕ)) (a b : Asked) → Spells a words → Spells b words
    → command_word a ≡ command_word b
same_word [] a b one other = absurd one
same_word (word ∷ options) a b one other = sym one.0 ∙ other.0

-- no words ask for two of the commands, whose words have different lengths
apart : (words : List (List ℕ)) (a b : Asked) (m n : ℕ) → length (command_word a) ≡ m
    → length (command_word b) ≡ n → m ≢ n → Spells a words → Spells b words → ⊥
apart words a b m n of_a of_b differ one other =
    differ (sym of_a ∙ ap length (same_word words a b one other) ∙ of_b)

play_or_judge : (full : Bool) (words : List (List ℕ)) → Spells (asks.Play full) words
    → IsJudge words → ⊥
play_or_judge full words =
    apart words (asks.Play full) asks.Judge 4 5 refl refl (λ e. omega (arith, e))

play_or_gen : (full : Bool) (seed rows : ℕ) (words : List (List ℕ)) → Spells (asks.Play full) words
    → IsGen seed rows words → ⊥
play_or_gen full seed rows words =
    apart words (asks.Play full) (asks.Gen seed rows) 4 3 refl refl (λ e. omega (arith, e))

play_or_show : (full : Bool) (words : List (List ℕ)) → Spells (asks.Play full) words → IsShow words
    → ⊥
play_or_show full words =
    apart words (asks.Play full) asks.Layout 4 6 refl refl (λ e. omega (arith, e))

judge_or_gen : (seed rows : ℕ) (words : List (List ℕ)) → IsJudge words → IsGen seed rows words → ⊥
judge_or_gen seed rows words =
    apart words asks.Judge (asks.Gen seed rows) 5 3 refl refl (λ e. omega (arith, e))

judge_or_show : (words : List (List ℕ)) → IsJudge words → IsShow words → ⊥
judge_or_show words = apart words asks.Judge asks.Layout 5 6 refl refl (λ e. omega (arith, e))

gen_or_show : (seed rows : ℕ) (words : List (List ℕ)) → IsGen seed rows words → IsShow words → ⊥
gen_or_show seed rows words =
    apart words (asks.Gen seed rows) asks.Layout 3 6 refl refl (λ e. omega (arith, e))

-- nor for a deck to be read and for nothing to be
deck_or_gen : (words : List (List ℕ)) (seed rows : ℕ) → TakesDeck words → IsGen seed rows words → ⊥
deck_or_gen words seed rows deck gen = by_told deck.0 deck.1
  where
    by_told : (tells : Tells) → AsksDeck tells words → ⊥
    by_told (Print full) asked = play_or_gen full seed rows words asked gen
    by_told Verdict asked = judge_or_gen seed rows words asked gen
    by_told (Summary a b) asked = asked

deck_or_show : (words : List (List ℕ)) → TakesDeck words → IsShow words → ⊥
deck_or_show words deck show = by_told deck.0 deck.1
  where
    by_told : (tells : Tells) → AsksDeck tells words → ⊥
    by_told (Print full) asked = play_or_show full words asked show
    by_told Verdict asked = judge_or_show words asked show
    by_told (Summary a b) asked = asked

deck_or_nothing : (words : List (List ℕ)) → TakesDeck words → NeedsNoDeck words → ⊥
deck_or_nothing words deck (inl made) = deck_or_gen words made.0 made.1 deck made.2
deck_or_nothing words deck (inr show) = deck_or_show words deck show

play_deck : (words : List (List ℕ)) → IsPlay words → TakesDeck words
play_deck words play = (Print play.0, play.1)

judge_deck : (words : List (List ℕ)) → IsJudge words → TakesDeck words
judge_deck words judge = (Verdict, judge)

-- the seed and the number of rows of the words are one
same_gen : (words : List (List ℕ)) (seed rows a b : ℕ) → IsGen seed rows words → IsGen a b words
    → (seed ≡ a) × (rows ≡ b)
same_gen words seed rows a b one other = let same : asks.Gen seed rows ≡ asks.Gen a b =
    one_command words (asks.Gen seed rows) (asks.Gen a b) one other in (cc (same), cc (same))

-- ---- a source

-- what was read to the end is all that was told
whole_read : (before after : Option (List ℕ)) (read bytes : List ℕ) → before ≡ Some bytes
    → Consumes before after read → IsAtEnd after → read ≡ bytes
whole_read None after read bytes told taken end = absurd (cc (told))
whole_read (Some all) None read bytes told taken end = absurd taken
whole_read (Some all) (Some left) read bytes told taken end =
    let same : all ≡ bytes = cc (told) in
    sym (append-nil read) ∙ ap (λ rest. read ++ rest) (sym end) ∙ sym taken ∙ same

short_and_long : (read bytes : List ℕ) → read ≡ bytes → length read ≤ DECK_LIMIT
    → DECK_LIMIT < length bytes → ⊥
short_and_long read bytes same short long =
    let lengths : length read ≡ length bytes = ap length same in omega arith

-- one byte more than the limit is not taken from fewer
too_many : (before after : Option (List ℕ)) (taken bytes : List ℕ) → before ≡ Some bytes
    → Consumes before after taken → length taken ≡ DECK_LIMIT + 1 → length bytes ≤ DECK_LIMIT → ⊥
too_many None after taken bytes told consumed many short = absurd (cc (told))
too_many (Some all) None taken bytes told consumed many short = absurd consumed
too_many (Some all) (Some left) taken bytes told consumed many short =
    let same : all ≡ bytes = cc (told) in
    let lengths : length all ≡ length (taken ++ left) = ap length consumed in
    let again : length all ≡ length bytes = ap length same in
    omega (arith, length-append taken left)

-- ---- the volume

same_image : (old new : Told) (since : MadeSince IsQuiet (Some old) new)
    → read_of new.first new.calls ≡ read_of old.first old.calls
same_image old new since =
    let is : since.before ≡ old = cc (since.was) in
    let first : new.first ≡ old.first = since.first ∙ ap (λ (t : Told). t.first) is in
    let calls : new.calls ≡ since.fresh ++ old.calls =
    since.calls ∙ ap (λ (t : Told). since.fresh ++ t.calls) is in
    ap (λ (i : Image). read_of i new.calls) first ∙ ap (read_of old.first) calls
    ∙ (λ i s p. quiet_reads old.first since.fresh old.calls s p since.each i)

-- an opening that is refused finds the volume as it was
still_sound : (before after : VolumeSeen) (set : Set) (page : ℕ) → IsSoundVolume before after
    → IsEnd before after [] (ends.Damaged set page) → ⊥
still_sound before after set page volume end =
    let told = volume.is in
    let damage : length volume.new.calls < 2 ^ 64 - 1
    → IsDamage after.capacities (read_of volume.new.first volume.new.calls) set page =
    subst
    (λ (o : Option Told). IfCounted o
    (λ t. IsDamage after.capacities (read_of t.first t.calls) set page)) told end.0 in
    let quiet : length volume.new.calls < 2 ^ 64 - 1 → MadeSince IsQuiet before.told volume.new =
    subst (λ (o : Option Told). IfCounted o (MadeSince IsQuiet before.told)) told end.1 in
    let image : read_of volume.new.first volume.new.calls
    ≡ read_of volume.old.first volume.old.calls =
    same_image volume.old volume.new
    (subst (λ (o : Option Told). MadeSince IsQuiet o volume.new) volume.was (quiet volume.few)) in
    sound_breaks_none before.capacities (read_of volume.old.first volume.old.calls) set page
    volume.sound.0 volume.sound.1 volume.sound.2
    (subst (λ (c : Capacities). IsDamage c (read_of volume.old.first volume.old.calls) set page)
    end.2
    (subst (λ (i : Image). IsDamage after.capacities i set page) image (damage volume.few)))

-- one that is refused after a death finds a volume that did not read tidy
was_untidy : (before after : VolumeSeen) (front : List Line) (trace : List Entry)
    → TraceOf front trace → (volume : IsSoundVolume before after) → WasUntidy before after trace
    → IsTidyVolume before.capacities (read_of volume.old.first volume.old.calls) → ⊥
was_untidy before after front [] entries volume untidy tidy = absurd entries
was_untidy before after front (e ∷ es) entries volume untidy tidy =
    subst
    (λ (o : Option Told). IfBoth before.told o
    (λ old t. IsTidyVolume before.capacities (read_of old.first old.calls) → ⊥)) volume.is untidy
    volume.few volume.old volume.was tidy

-- ---- statuses

-- those that come before the opening are no other
not_early : (status : ℕ) → Contains (1 ∷ 2 ∷ 3 ∷ 7 ∷ []) status
    → (status ≡ 4) ⊎ ((status ≡ 5) ⊎ ((status ≡ 6) ⊎ ((status ≡ 0) ⊎ (status ≡ 8)))) → ⊥
not_early status (i, low, is) other = by_place i low is
  where
    differs : (n : ℕ) → status ≡ n → (n ≡ 1) ⊎ ((n ≡ 2) ⊎ ((n ≡ 3) ⊎ (n ≡ 7))) → ⊥
    differs n e f = grind (arith, e, f, other)

    by_place : (i : ℕ) → i < 4 → slice_index_or (1 ∷ 2 ∷ 3 ∷ 7 ∷ []) i status ≡ status → ⊥
    by_place zero low is = differs 1 (sym is) (inl refl)
    by_place (suc zero) low is = differs 2 (sym is) (inr (inl refl))
    by_place (suc (suc zero)) low is = differs 3 (sym is) (inr (inr (inl refl)))
    by_place (suc (suc (suc zero))) low is = differs 7 (sym is) (inr (inr (inr refl)))
    by_place (suc (suc (suc (suc i)))) low is = omega (arith, low)

-- an outcome of lines that were read
abbrev IsOfLines : Outcome → Type 0
IsOfLines Played = Unit {0}
IsOfLines Down = Unit {0}
IsOfLines (Damaged set page) = Unit {0}
IsOfLines Device = Unit {0}
IsOfLines outcome = ⊥

-- bytes that come to such an outcome are a deck
is_deck : (outcome : Outcome) (tells : Tells) (before after : VolumeSeen) (bytes : List ℕ)
    (trace : List Entry) (text : List ℕ)
    → IsOfLines outcome → DealsWithBytes tells before after bytes outcome trace text
    → (lines : List Line) × Lines bytes lines
is_deck Played tells before after bytes trace text of deals = (deals.0, deals.1)
is_deck Down tells before after bytes trace text of deals = (deals.0, deals.1)
is_deck (Damaged set page) tells before after bytes trace text of deals = (deals.0, deals.1)
is_deck Device tells before after bytes trace text of deals = (deals.0, deals.1)
is_deck outcome tells before after bytes trace text of deals = absurd of

-- the process does not die in a deck that is made
never_dies : (front rest lines : List Line) → AllByRecursion IsOfSessions lines
    → lines ≡ front ++ Death ∷ rest → ⊥
never_dies front rest [] all is = no_lines front is
  where
    no_lines : (front : List Line) → [] ≡ front ++ Death ∷ rest → ⊥
    no_lines [] e = absurd (cc (e))
    no_lines (l ∷ ls) e = absurd (cc (e))
never_dies [] rest (line ∷ lines) all is = let first : line ≡ Death = cc (is) in
    subst IsOfSessions first all.0
never_dies (l ∷ front) rest (line ∷ lines) all is =
    let more : lines ≡ front ++ Death ∷ rest = cc (is) in never_dies front rest lines all.1 more

not_made : (seed rows : ℕ) (trace : List Entry) → EndsAtDeath (deck_of seed rows) trace → ⊥
not_made seed rows trace dies =
    never_dies dies.front dies.rest (deck_of seed rows) (each_of_sessions seed rows) dies.joined

module _ (words : List (List ℕ)) (source source_after sink sink_after : Seen)
    (volume volume_after : VolumeSeen) (status : ℕ) (trace : List Entry) where
  -- a status but 4 and 8 is the outcome's
  record OfStatus (outcome : Outcome) (text : List ℕ) : Type 0 where
    is : status ≡ status_of outcome
    comes : Comes outcome words source source_after volume volume_after trace text
    finds : Finds outcome volume volume_after trace
    shown : Appends sink.bytes sink_after.bytes (output_of outcome text)

  by_status : status ≢ 4 → status ≢ 8
      → (a : Concludes words source source_after sink sink_after volume volume_after status trace)
      → OfStatus a.outcome a.text
  by_status four eight a = elim a.delivered [
    | inl whole ↦ record { is = whole.0; comes = a.comes; finds = a.finds; shown = whole.1 }
    | inr front ↦
        elim front [ inl failed ↦ absurd (four failed.0) | inr wanted ↦ absurd (eight wanted.0) ]
  ]

  -- what a deck comes to that is read and played
  record IsRead (text : List ℕ) : Type 0 where
    tells : Tells
    asked : AsksDeck tells words
    bytes : List ℕ
    lines : List Line
    rows : ℕ
    read : ReadsDeck source bytes source_after
    spelled : Lines bytes lines
    entries : TraceOf lines trace
    counted : EndsWhole volume volume_after lines trace rows
    told : TellsRun tells volume volume_after trace (closes.Rows rows) text
    shown : Appends sink.bytes sink_after.bytes text

  is_read : (text : List ℕ) → OfStatus Played text
      → PlaysTo Played words source source_after volume volume_after trace text → IsRead text
  is_read text of comes =
      let (asked, bytes, read, deals) = comes in
      let (lines, spelled, whole) = deals in
      record {
        tells = asked.0;
        asked = asked.1;
        bytes = bytes;
        lines = lines;
        rows = whole.rows;
        read = read;
        spelled = spelled;
        entries = whole.entries;
        counted = whole.counted;
        told = whole.told;
        shown = of.shown;
      }

  read_of_status : (outcome : Outcome) (text : List ℕ) → status ≡ 0 → TakesDeck words
      → OfStatus outcome text → IsRead text
  read_of_status Played text is deck of = elim of.comes [
    | inl played ↦ is_read text of played
    | inr other ↦ elim other [
      | inl made ↦ absurd (deck_or_gen words made.0 made.1 deck made.2)
      | inr shown ↦ absurd shown
    ]
  ]
  read_of_status Shown text is deck of = elim of.comes [
    | inl played ↦ absurd played.3.2
    | inr other ↦ elim other [
      | inl made ↦ absurd made.4
      | inr shown ↦ absurd (deck_or_show words deck shown.0)
    ]
  ]
  read_of_status outcome text is deck of = absurd (omega (arith, of.is, is))

  reads : (a : Concludes words source source_after sink sink_after volume volume_after status trace)
      → status ≡ 0 → TakesDeck words → IsRead a.text
  reads a is deck =
      read_of_status a.outcome a.text is deck (by_status (λ e. omega arith) (λ e. omega arith) a)

  -- for `play`
  plays_of : (text : List ℕ) (read : IsRead text) → IsPlay words
      → Plays words source source_after sink sink_after volume volume_after trace
  plays_of text read play = by_told read.tells read.asked read.told
    where
      by_told : (tells : Tells) → AsksDeck tells words
          → TellsRun tells volume volume_after trace (closes.Rows read.rows) text
          → Plays words source source_after sink sink_after volume volume_after trace
      by_told (Print full) asked told = record {
        asked = (full, asked);
        bytes = read.bytes;
        lines = read.lines;
        rows = read.rows;
        read = read.read;
        spelled = read.spelled;
        entries = read.entries;
        counted = read.counted;
        shown = subst (Appends sink.bytes sink_after.bytes) told.is read.shown;
      }
      by_told Verdict asked told = absurd (play_or_judge play.0 words play.1 asked)
      by_told (Summary seed rows) asked told = absurd asked

  plays : Concludes words source source_after sink sink_after volume volume_after status trace
      → status ≡ 0 → IsPlay words
      → Plays words source source_after sink sink_after volume volume_after trace
  plays a is play = plays_of a.text (reads a is (play_deck words play)) play

  -- for `judge`
  judges_of : (text : List ℕ) (read : IsRead text) → IsJudge words
      → Judges source source_after sink sink_after volume volume_after trace
  judges_of text read judge = by_told read.tells read.asked read.told
    where
      by_told : (tells : Tells) → AsksDeck tells words
          → TellsRun tells volume volume_after trace (closes.Rows read.rows) text
          → Judges source source_after sink sink_after volume volume_after trace
      by_told (Print full) asked told = absurd (play_or_judge full words asked judge)
      by_told Verdict asked told = record {
        bytes = read.bytes;
        lines = read.lines;
        rows = read.rows;
        verdict = told.verdict;
        read = read.read;
        spelled = read.spelled;
        entries = read.entries;
        counted = read.counted;
        judged = told.told;
        shown = subst (Appends sink.bytes sink_after.bytes) told.is read.shown;
      }
      by_told (Summary seed rows) asked told = absurd asked

  judges : Concludes words source source_after sink sink_after volume volume_after status trace
      → status ≡ 0 → IsJudge words
      → Judges source source_after sink sink_after volume volume_after trace
  judges a is judge = judges_of a.text (reads a is (judge_deck words judge)) judge

  -- for `gen`
  summed_to : (seed rows : ℕ) (text : List ℕ) → OfStatus Played text → source_after ≡ source
      → DealsWithLines (Summary seed rows) volume volume_after (deck_of seed rows) Played trace text
      → Sums seed rows source source_after sink sink_after volume volume_after trace
  summed_to seed rows text of unread whole = record {
    verdict = whole.told.verdict;
    count = whole.rows;
    unread = unread;
    entries = whole.entries;
    counted = whole.counted;
    judged = whole.told.told;
    shown = subst (Appends sink.bytes sink_after.bytes) whole.told.is of.shown;
  }

  summed_made : (seed rows : ℕ) (text : List ℕ) → IsGen seed rows words → OfStatus Played text
      → MakesTo Played words source source_after volume volume_after trace text
      → Sums seed rows source source_after sink sink_after volume volume_after trace
  summed_made seed rows text gen of made =
      let same = same_gen words made.0 made.1 seed rows made.2 gen in
      subst (λ n. Sums n rows source source_after sink sink_after volume volume_after trace) same.0
      (subst (λ n. Sums made.0 n source source_after sink sink_after volume volume_after trace)
      same.1
      (summed_to made.0 made.1 text of made.3 made.4))

  summed_of : (seed rows : ℕ) (outcome : Outcome) (text : List ℕ) → status ≡ 0
      → IsGen seed rows words → OfStatus outcome text
      → Sums seed rows source source_after sink sink_after volume volume_after trace
  summed_of seed rows Played text is gen of = elim of.comes [
    | inl played ↦ absurd (deck_or_gen words seed rows played.0 gen)
    | inr other ↦
        elim other [ inl made ↦ summed_made seed rows text gen of made | inr shown ↦ absurd shown ]
  ]
  summed_of seed rows Shown text is gen of = elim of.comes [
    | inl played ↦ absurd played.3.2
    | inr other ↦ elim other [
      | inl made ↦ absurd made.4
      | inr shown ↦ absurd (gen_or_show seed rows words gen shown.0)
    ]
  ]
  summed_of seed rows outcome text is gen of = absurd (omega (arith, of.is, is))

  sums : Concludes words source source_after sink sink_after volume volume_after status trace
      → (seed rows : ℕ) → status ≡ 0 → IsGen seed rows words
      → Sums seed rows source source_after sink sink_after volume volume_after trace
  sums a seed rows is gen = summed_of seed rows a.outcome a.text is gen
      (by_status (λ e. omega arith) (λ e. omega arith) a)

  -- for `layout`
  shown_of : (outcome : Outcome) (text : List ℕ) → status ≡ 0 → IsShow words → OfStatus outcome text
      → Shows source source_after sink sink_after volume volume_after trace
  shown_of Played text is show of = elim of.comes [
    | inl played ↦ absurd (deck_or_show words played.0 show)
    | inr other ↦ elim other [
      | inl made ↦ absurd (gen_or_show made.0 made.1 words made.2 show)
      | inr shown ↦ absurd shown
    ]
  ]
  shown_of Shown text is show of = elim of.comes [
    | inl played ↦ absurd played.3.2
    | inr other ↦ elim other [
      | inl made ↦ absurd made.4
      | inr shown ↦ record { unread = shown.1; text = text; layout = shown.2; shown = of.shown }
    ]
  ]
  shown_of outcome text is show of = absurd (omega (arith, of.is, is))

  shows : Concludes words source source_after sink sink_after volume volume_after status trace
      → status ≡ 0 → IsShow words
      → Shows source source_after sink sink_after volume volume_after trace
  shows a is show =
      shown_of a.outcome a.text is show (by_status (λ e. omega arith) (λ e. omega arith) a)

  words_of : (outcome : Outcome) (text : List ℕ) → status ≡ 1 → OfStatus outcome text
      → IsCommand words → ⊥
  words_of Words text is of = of.comes.0
  words_of outcome text is of = absurd (omega (arith, of.is, is))

  no_words : Concludes words source source_after sink sink_after volume volume_after status trace
      → status ≡ 1 → IsCommand words → ⊥
  no_words a is = words_of a.outcome a.text is (by_status (λ e. omega arith) (λ e. omega arith) a)

  refuses_line : (line : ℕ) (text : List ℕ) → OfStatus (Deck line) text
      → PlaysTo (Deck line) words source source_after volume volume_after trace text
      → RefusesDeck source source_after sink sink_after
  refuses_line line text of comes =
      let (deck, bytes, read, deals) = comes in
      let (refused, none, printed) = deals in
      record {
        bytes = bytes;
        line = line;
        read = read;
        refused = refused;
        shown = subst (Appends sink.bytes sink_after.bytes) printed of.shown;
      }

  deck_status : (outcome : Outcome) (text : List ℕ) → status ≡ 2 → OfStatus outcome text
      → RefusesDeck source source_after sink sink_after
  deck_status (Deck line) text is of = elim of.comes [
    | inl played ↦ refuses_line line text of played
    | inr other ↦ elim other [ inl made ↦ absurd made.4 | inr shown ↦ absurd shown ]
  ]
  deck_status outcome text is of = absurd (omega (arith, of.is, is))

  no_deck : Concludes words source source_after sink sink_after volume volume_after status trace
      → status ≡ 2 → RefusesDeck source source_after sink sink_after
  no_deck a is = deck_status a.outcome a.text is (by_status (λ e. omega arith) (λ e. omega arith) a)

  source_of : (outcome : Outcome) (text : List ℕ) → status ≡ 3 → OfStatus outcome text
      → Rose source.faults source_after.faults
  source_of Source text is of = elim of.comes [
    | inl played ↦ played.1
    | inr other ↦ elim other [ inl made ↦ absurd made.4 | inr shown ↦ absurd shown ]
  ]
  source_of outcome text is of = absurd (omega (arith, of.is, is))

  no_source : Concludes words source source_after sink sink_after volume volume_after status trace
      → status ≡ 3 → Rose source.faults source_after.faults
  no_source a is = source_of a.outcome a.text is (by_status (λ e. omega arith) (λ e. omega arith) a)

  -- what lines come to whose run found a page that breaks a rule
  refuses_lines : (tells : Tells) (lines : List Line) (set : Set) (page : ℕ) (text : List ℕ)
      → OfStatus (Damaged set page) text
      → DealsWithLines tells volume volume_after lines (Damaged set page) trace text
      → RefusesVolume sink sink_after volume volume_after trace
  refuses_lines tells lines set page text of (inl first) =
      record {
        set = set;
        page = page;
        because = of.finds;
        text = text;
        tells = inl first;
        shown = of.shown;
      }
  refuses_lines tells lines set page text of (inr dies) =
      record {
        set = set;
        page = page;
        because = of.finds;
        text = text;
        tells = inr (tells, lines, dies);
        shown = of.shown;
      }

  refuses_deck : (set : Set) (page : ℕ) (text : List ℕ) → OfStatus (Damaged set page) text
      → PlaysTo (Damaged set page) words source source_after volume volume_after trace text
      → RefusesVolume sink sink_after volume volume_after trace
  refuses_deck set page text of comes =
      let (asked, bytes, read, deals) = comes in
      refuses_lines asked.0 deals.0 set page text of deals.2

  damaged_of : (outcome : Outcome) (text : List ℕ) → status ≡ 5 → OfStatus outcome text
      → RefusesVolume sink sink_after volume volume_after trace
  damaged_of (Damaged set page) text is of = elim of.comes [
    | inl played ↦ refuses_deck set page text of played
    | inr other ↦ elim other [
      | inl made ↦
          refuses_lines (Summary made.0 made.1) (deck_of made.0 made.1) set page text of made.4
      | inr shown ↦ record {
        set = set;
        page = page;
        because = of.finds;
        text = text;
        tells = inl (shown.2, shown.3);
        shown = of.shown;
      }
    ]
  ]
  damaged_of outcome text is of = absurd (omega (arith, of.is, is))

  no_volume : Concludes words source source_after sink sink_after volume volume_after status trace
      → status ≡ 5 → RefusesVolume sink sink_after volume volume_after trace
  no_volume a is =
      damaged_of a.outcome a.text is (by_status (λ e. omega arith) (λ e. omega arith) a)

  -- what lines come to whose run the device ended
  fails_lines : (tells : Tells) (lines : List Line) (text : List ℕ) → OfStatus Down text
      → DealsWithLines tells volume volume_after lines Down trace text
      → FailsVolume sink sink_after volume volume_after trace
  fails_lines tells lines text of deals =
      record { rose = of.finds; text = text; tells = inr (tells, lines, deals); shown = of.shown }

  fails_deck : (text : List ℕ) → OfStatus Down text
      → PlaysTo Down words source source_after volume volume_after trace text
      → FailsVolume sink sink_after volume volume_after trace
  fails_deck text of comes =
      let (asked, bytes, read, deals) = comes in
      fails_lines asked.0 deals.0 text of deals.2

  -- the first opening failed
  fails_first : (text : List ℕ) → OfStatus Device text → trace ≡ []
      → FailsVolume sink sink_after volume volume_after trace
  fails_first text of none = record {
    rose = of.finds.0;
    text = fixed_text Device;
    tells = inl (none, refl, of.finds.1);
    shown = of.shown;
  }

  fails_unplayed : (text : List ℕ) → OfStatus Device text
      → PlaysTo Device words source source_after volume volume_after trace text
      → FailsVolume sink sink_after volume volume_after trace
  fails_unplayed text of comes =
      let (asked, bytes, read, deals) = comes in
      fails_first text of deals.2

  failed_of : (outcome : Outcome) (text : List ℕ) → status ≡ 6 → OfStatus outcome text
      → FailsVolume sink sink_after volume volume_after trace
  failed_of Down text is of = elim of.comes [
    | inl played ↦ fails_deck text of played
    | inr other ↦ elim other [
      | inl made ↦ fails_lines (Summary made.0 made.1) (deck_of made.0 made.1) text of made.4
      | inr shown ↦ absurd shown
    ]
  ]
  failed_of Device text is of = elim of.comes [
    | inl played ↦ fails_unplayed text of played
    | inr other ↦ elim other [
      | inl made ↦ fails_first text of made.4
      | inr shown ↦ fails_first text of shown.2
    ]
  ]
  failed_of outcome text is of = absurd (omega (arith, of.is, is))

  volume_fails :
      Concludes words source source_after sink sink_after volume volume_after status trace
      → status ≡ 6 → FailsVolume sink sink_after volume volume_after trace
  volume_fails a is =
      failed_of a.outcome a.text is (by_status (λ e. omega arith) (λ e. omega arith) a)

  -- a refusal before the opening calls no volume
  uncalled_of : (outcome : Outcome) (text : List ℕ) → Contains (1 ∷ 2 ∷ 3 ∷ 7 ∷ []) status
      → OfStatus outcome text → volume_after ≡ volume
  uncalled_of Words text is of = of.finds
  uncalled_of (Deck line) text is of = of.finds
  uncalled_of Source text is of = of.finds
  uncalled_of Long text is of = of.finds
  uncalled_of Played text is of = absurd (not_early status is (inr (inr (inr (inl of.is)))))
  uncalled_of Shown text is of = absurd (not_early status is (inr (inr (inr (inl of.is)))))
  uncalled_of Down text is of = absurd (not_early status is (inr (inr (inl of.is))))
  uncalled_of (Damaged set page) text is of = absurd (not_early status is (inr (inl of.is)))
  uncalled_of Device text is of = absurd (not_early status is (inr (inr (inl of.is))))
  uncalled_of NoMemory text is of = absurd (not_early status is (inr (inr (inr (inr of.is)))))

  early_so : Contains (1 ∷ 2 ∷ 3 ∷ 7 ∷ []) status → (status ≢ 4) × (status ≢ 8)
  early_so is =
      (λ e. not_early status is (inl e), λ e. not_early status is (inr (inr (inr (inr e)))))

  uncalled : Concludes words source source_after sink sink_after volume volume_after status trace
      → Contains (1 ∷ 2 ∷ 3 ∷ 7 ∷ []) status → volume_after ≡ volume
  uncalled a is = uncalled_of a.outcome a.text is (by_status (early_so is).0 (early_so is).1 a)

  long_of : (outcome : Outcome) (text : List ℕ) → status ≡ 7 → OfStatus outcome text
      → TakesTooMany source.bytes source_after.bytes
  long_of Long text is of = elim of.comes [
    | inl played ↦ played.1
    | inr other ↦ elim other [ inl made ↦ absurd made.4 | inr shown ↦ absurd shown ]
  ]
  long_of outcome text is of = absurd (omega (arith, of.is, is))

  too_long : Concludes words source source_after sink sink_after volume volume_after status trace
      → status ≡ 7 → TakesTooMany source.bytes source_after.bytes
  too_long a is = long_of a.outcome a.text is (by_status (λ e. omega arith) (λ e. omega arith) a)

  no_sink : Concludes words source source_after sink sink_after volume volume_after status trace
      → status ≡ 4 → Rose sink.faults sink_after.faults
  no_sink a is = elim a.delivered [
    | inl whole ↦ absurd (not_four a.outcome (sym whole.0 ∙ is))
    | inr front ↦ elim front [ inl failed ↦ failed.1 | inr wanted ↦ absurd (omega arith) ]
  ]

  -- the words of each outcome but one
  played_words : (outcome : Outcome) (text : List ℕ)
      → PlaysTo outcome words source source_after volume volume_after trace text → TakesDeck words
  played_words Source text comes = comes.0
  played_words Long text comes = comes.0
  played_words NoMemory text comes = comes.0
  played_words outcome text comes = comes.0

  -- the outcomes of a call that takes nothing
  abbrev Unread : Outcome → Type 0
  Unread outcome = Contains (0 ∷ 4 ∷ 5 ∷ 6 ∷ 8 ∷ []) (status_of outcome)

  record TakesNone (outcome : Outcome) : Type 0 where
    asked : NeedsNoDeck words
    unread : source_after ≡ source
    status_is : Unread outcome

  is_shown : (outcome : Outcome) (text : List ℕ)
      → ShowsTo outcome words source source_after volume volume_after trace text → TakesNone outcome
  is_shown Shown text comes =
      record { asked = inr comes.0; unread = comes.1; status_is = (0, omega arith, refl) }
  is_shown (Damaged set page) text comes =
      record { asked = inr comes.0; unread = comes.1; status_is = (2, omega arith, refl) }
  is_shown Device text comes =
      record { asked = inr comes.0; unread = comes.1; status_is = (3, omega arith, refl) }
  is_shown NoMemory text comes =
      record { asked = inr comes.0; unread = comes.1; status_is = (4, omega arith, refl) }
  is_shown outcome text comes = absurd comes

  made_status : (seed rows : ℕ) (outcome : Outcome) (text : List ℕ)
      → DealsWithLines (Summary seed rows) volume volume_after (deck_of seed rows) outcome trace
      text
      → Unread outcome
  made_status seed rows Played text deals = (0, omega arith, refl)
  made_status seed rows (Damaged set page) text deals = (2, omega arith, refl)
  made_status seed rows Down text deals = (3, omega arith, refl)
  made_status seed rows Device text deals = (3, omega arith, refl)
  made_status seed rows NoMemory text deals = (4, omega arith, refl)
  made_status seed rows outcome text deals = absurd deals

  is_made : (outcome : Outcome) (text : List ℕ)
      → MakesTo outcome words source source_after volume volume_after trace text → TakesNone outcome
  is_made outcome text comes = record {
    asked = inl (comes.0, comes.1, comes.2);
    unread = comes.3;
    status_is = made_status comes.0 comes.1 outcome text comes.4;
  }

  -- each outcome but that of words that ask for nothing
  asked_for : (outcome : Outcome) (text : List ℕ)
      → Comes outcome words source source_after volume volume_after trace text
      → (outcome ≡ Words) ⊎ (TakesDeck words ⊎ TakesNone outcome)
  asked_for Words text comes = inl refl
  asked_for outcome text comes = elim comes [
    | inl played ↦ inr (inl (played_words outcome text played))
    | inr other ↦ elim other [
      | inl made ↦ inr (inr (is_made outcome text made))
      | inr shown ↦ inr (inr (is_shown outcome text shown))
    ]
  ]

  other_words : Concludes words source source_after sink sink_after volume volume_after status trace
      → (IsCommand words → ⊥) → Contains (1 ∷ 4 ∷ 8 ∷ []) status
  other_words a other = elim a.delivered [
    | inl whole ↦ (
      0,
      omega arith,
      sym (whole.0 ∙ ap status_of (refused (asked_for a.outcome a.text a.comes))),
    )
    | inr front ↦ elim front [
      | inl failed ↦ (1, omega arith, sym failed.0)
      | inr wanted ↦ (2, omega arith, sym wanted.0)
    ]
  ]
    where
      refused : (a.outcome ≡ Words) ⊎ (TakesDeck words ⊎ TakesNone a.outcome) → a.outcome ≡ Words
      refused (inl is) = is
      refused (inr (inl deck)) = absurd (other (inl deck))
      refused (inr (inr none)) = absurd (other (inr none.asked))

  -- what words that take nothing come to
  only_none : NeedsNoDeck words → (outcome : Outcome) (text : List ℕ)
      → Comes outcome words source source_after volume volume_after trace text → TakesNone outcome
  only_none nothing outcome text comes = by_case outcome text comes (asked_for outcome text comes)
    where
      by_case : (outcome : Outcome) (text : List ℕ)
          → Comes outcome words source source_after volume volume_after trace text
          → (outcome ≡ Words) ⊎ (TakesDeck words ⊎ TakesNone outcome) → TakesNone outcome
      by_case Words text comes (inl is) = absurd (comes.0 (inr nothing))
      by_case outcome text comes (inl is) = absurd (cc (is))
      by_case outcome text comes (inr (inl deck)) = absurd (deck_or_nothing words deck nothing)
      by_case outcome text comes (inr (inr none)) = none

  left_unread : Concludes words source source_after sink sink_after volume volume_after status trace
      → NeedsNoDeck words → source_after ≡ source
  left_unread a nothing = (only_none nothing a.outcome a.text a.comes).unread

  none_status : Concludes words source source_after sink sink_after volume volume_after status trace
      → NeedsNoDeck words → Contains (0 ∷ 4 ∷ 5 ∷ 6 ∷ 8 ∷ []) status
  none_status a nothing = elim a.delivered [
    | inl whole ↦ subst (Contains (0 ∷ 4 ∷ 5 ∷ 6 ∷ 8 ∷ [])) (sym whole.0)
        (only_none nothing a.outcome a.text a.comes).status_is
    | inr front ↦ elim front [
      | inl failed ↦ (1, omega arith, sym failed.0)
      | inr wanted ↦ (4, omega arith, sym wanted.0)
    ]
  ]

  -- what was read to the end is what the source told
  all_read : (read bytes : List ℕ) → source.bytes ≡ Some bytes → ReadsDeck source read source_after
      → read ≡ bytes
  all_read read bytes told reads =
      whole_read source.bytes source_after.bytes read bytes told reads.taken reads.end

  -- the status is that of what is due, or memory ran out
  abbrev Meets : Outcome → Outcome → Type 0
  Meets outcome due = (status_of outcome ≡ status_of due) ⊎ (outcome ≡ NoMemory)

  -- bytes that are no deck come to no outcome of lines
  no_deck_due : (outcome : Outcome) (line : ℕ) (text : List ℕ) → IsOfLines outcome
      → IsDue (Deck line) words source.bytes volume volume_after
      → (asked : TakesDeck words) × (bytes : List ℕ) × ReadsDeck source bytes source_after
      × DealsWithBytes asked.0 volume volume_after bytes outcome trace text
      → ⊥
  no_deck_due outcome line text of is_due comes =
      let (asked, read, reads, deals) = comes in
      let (lines, spelled) = is_deck outcome asked.0 volume volume_after read trace text of deals in
      is_due.4 lines (subst (λ b. Lines b lines) (all_read read is_due.1 is_due.2 reads) spelled)

  -- the first opening finds no damage in a sound volume
  not_first : (set : Set) (page : ℕ) → IsSoundVolume volume volume_after
      → Finds (Damaged set page) volume volume_after trace → trace ≡ [] → ⊥
  not_first set page sound finds none = still_sound volume volume_after set page sound
      (subst (λ (es : List Entry). IsEnd volume volume_after es (ends.Damaged set page)) none finds)

  -- what comes of a deck that is read and due to be played
  deck_due : (outcome : Outcome) (text : List ℕ) → IsDueDeck words source.bytes volume volume_after
      → (Rose source.faults source_after.faults → ⊥)
      → PlaysTo outcome words source source_after volume volume_after trace text
      → Finds outcome volume volume_after trace → Meets outcome Played
  deck_due NoMemory text is_due sure comes finds = inr refl
  deck_due Source text is_due sure comes finds = absurd (sure comes.1)
  deck_due Words text is_due sure comes finds = absurd comes.3.2
  deck_due Shown text is_due sure comes finds = absurd comes.3.2
  deck_due Played text is_due sure comes finds = inl refl
  deck_due Long text is_due sure comes finds = absurd
      (too_many source.bytes source_after.bytes comes.1.0 is_due.1 is_due.2 comes.1.2 comes.1.1
      is_due.3)
  deck_due (Deck line) text is_due sure comes finds =
      let (asked, read, reads, deals) = comes in
      let (refused, none, printed) = deals in
      absurd
      (refused.1 is_due.5
      (subst (λ b. Lines b is_due.5) (sym (all_read read is_due.1 is_due.2 reads)) is_due.6))
  deck_due Down text is_due sure comes finds = absurd (is_due.4.sure finds)
  deck_due Device text is_due sure comes finds = absurd (is_due.4.sure finds.0)
  deck_due (Damaged set page) text is_due sure comes finds =
      let (asked, read, reads, deals) = comes in
      let (lines, spelled, at) = deals in
      let same : lines ≡ is_due.5 = one_reading Every is_due.1 lines is_due.5
      (subst (λ b. Lines b lines) (all_read read is_due.1 is_due.2 reads) spelled) is_due.6 in
      absurd (by_place asked.0 lines at same)
    where
      by_place : (tells : Tells) (lines : List Line)
          → DealsWithLines tells volume volume_after lines (Damaged set page) trace text
          → lines ≡ is_due.5 → ⊥
      by_place tells lines (inl first) same = not_first set page is_due.4 finds first.0
      by_place tells lines (inr dies) same =
          was_untidy volume volume_after dies.0.front trace dies.0.entries is_due.4 finds.3
          (is_due.7 (dies.0.front, dies.0.rest, sym same ∙ dies.0.joined))

  -- what comes where nothing fails has the status of what is due, or is want of memory
  played_due : (outcome due : Outcome) (text : List ℕ)
      → IsDue due words source.bytes volume volume_after → TakesDeck words
      → (Rose source.faults source_after.faults → ⊥)
      → PlaysTo outcome words source source_after volume volume_after trace text
      → Finds outcome volume volume_after trace → Meets outcome due
  played_due NoMemory due text is_due deck sure comes finds = inr refl
  played_due outcome Played text (inl is_due) deck sure comes finds =
      deck_due outcome text is_due sure comes finds
  played_due outcome Played text (inr is_due) deck sure comes finds =
      absurd (deck_or_gen words is_due.0 is_due.1 deck is_due.2)
  played_due Source due text is_due deck sure comes finds = absurd (sure comes.1)
  played_due Words due text is_due deck sure comes finds = absurd comes.3.2
  played_due Shown due text is_due deck sure comes finds = absurd comes.3.2
  played_due outcome Source text is_due deck sure comes finds = absurd is_due
  played_due outcome NoMemory text is_due deck sure comes finds = absurd is_due
  played_due outcome Down text is_due deck sure comes finds = absurd is_due
  played_due outcome (Damaged set page) text is_due deck sure comes finds = absurd is_due
  played_due outcome Device text is_due deck sure comes finds = absurd is_due
  played_due outcome Words text is_due deck sure comes finds = absurd (is_due (inl deck))
  played_due outcome Shown text is_due deck sure comes finds =
      absurd (deck_or_show words deck is_due.0)
  played_due (Deck line) (Deck other) text is_due deck sure comes finds = inl refl
  played_due Long Long text is_due deck sure comes finds = inl refl
  played_due Long (Deck line) text is_due deck sure comes finds = absurd
      (too_many source.bytes source_after.bytes comes.1.0 is_due.1 is_due.2 comes.1.2 comes.1.1
      is_due.3)
  played_due outcome Long text is_due deck sure comes finds =
      absurd
      (short_and_long comes.1 is_due.1 (all_read comes.1 is_due.1 is_due.2 comes.2) comes.2.short
      is_due.3)
  played_due Played (Deck line) text is_due deck sure comes finds =
      absurd (no_deck_due Played line text tt is_due comes)
  played_due Down (Deck line) text is_due deck sure comes finds =
      absurd (no_deck_due Down line text tt is_due comes)
  played_due (Damaged set page) (Deck line) text is_due deck sure comes finds =
      absurd (no_deck_due (Damaged set page) line text tt is_due comes)
  played_due Device (Deck line) text is_due deck sure comes finds =
      absurd (no_deck_due Device line text tt is_due comes)

  -- what comes of a deck that is made and due to be played
  made_lines_due : (seed rows : ℕ) (outcome : Outcome) (text : List ℕ)
      → IsSoundVolume volume volume_after
      → DealsWithLines (Summary seed rows) volume volume_after (deck_of seed rows) outcome trace
      text
      → Finds outcome volume volume_after trace → Meets outcome Played
  made_lines_due seed rows NoMemory text sound deals finds = inr refl
  made_lines_due seed rows Played text sound deals finds = inl refl
  made_lines_due seed rows Down text sound deals finds = absurd (sound.sure finds)
  made_lines_due seed rows Device text sound deals finds = absurd (sound.sure finds.0)
  made_lines_due seed rows (Damaged set page) text sound (inl first) finds =
      absurd (not_first set page sound finds first.0)
  made_lines_due seed rows (Damaged set page) text sound (inr dies) finds =
      absurd (not_made seed rows trace dies.0)
  made_lines_due seed rows outcome text sound deals finds = absurd deals

  made_due : (outcome due : Outcome) (text : List ℕ)
      → IsDue due words source.bytes volume volume_after
      → MakesTo outcome words source source_after volume volume_after trace text
      → Finds outcome volume volume_after trace → Meets outcome due
  made_due outcome Played text (inl is_due) comes finds =
      absurd (deck_or_gen words comes.0 comes.1 is_due.0 comes.2)
  made_due outcome Played text (inr is_due) comes finds =
      made_lines_due comes.0 comes.1 outcome text is_due.3 comes.4 finds
  made_due outcome Source text is_due comes finds = absurd is_due
  made_due outcome NoMemory text is_due comes finds = absurd is_due
  made_due outcome Down text is_due comes finds = absurd is_due
  made_due outcome (Damaged set page) text is_due comes finds = absurd is_due
  made_due outcome Device text is_due comes finds = absurd is_due
  made_due outcome Words text is_due comes finds =
      absurd (is_due (inr (inl (comes.0, comes.1, comes.2))))
  made_due outcome Shown text is_due comes finds =
      absurd (gen_or_show comes.0 comes.1 words comes.2 is_due.0)
  made_due outcome (Deck line) text is_due comes finds =
      absurd (deck_or_gen words comes.0 comes.1 is_due.0 comes.2)
  made_due outcome Long text is_due comes finds =
      absurd (deck_or_gen words comes.0 comes.1 is_due.0 comes.2)

  shown_due : (outcome due : Outcome) (text : List ℕ)
      → IsDue due words source.bytes volume volume_after → IsShow words
      → ShowsTo outcome words source source_after volume volume_after trace text
      → Finds outcome volume volume_after trace → Meets outcome due
  shown_due NoMemory due text is_due show comes finds = inr refl
  shown_due outcome Source text is_due show comes finds = absurd is_due
  shown_due outcome NoMemory text is_due show comes finds = absurd is_due
  shown_due outcome Down text is_due show comes finds = absurd is_due
  shown_due outcome (Damaged set page) text is_due show comes finds = absurd is_due
  shown_due outcome Device text is_due show comes finds = absurd is_due
  shown_due outcome Words text is_due show comes finds = absurd (is_due (inr (inr show)))
  shown_due outcome Played text (inl is_due) show comes finds =
      absurd (deck_or_show words is_due.0 show)
  shown_due outcome Played text (inr is_due) show comes finds =
      absurd (gen_or_show is_due.0 is_due.1 words is_due.2 show)
  shown_due outcome (Deck line) text is_due show comes finds =
      absurd (deck_or_show words is_due.0 show)
  shown_due outcome Long text is_due show comes finds = absurd (deck_or_show words is_due.0 show)
  shown_due Shown Shown text is_due show comes finds = inl refl
  shown_due (Damaged set page) Shown text is_due show comes finds =
      absurd (not_first set page is_due.1 finds comes.2)
  shown_due Device Shown text is_due show comes finds = absurd (is_due.1.sure finds.0)
  shown_due outcome Shown text is_due show comes finds = absurd comes

  -- the words of a layout's outcomes
  shown_words : (outcome : Outcome) (text : List ℕ)
      → ShowsTo outcome words source source_after volume volume_after trace text → IsShow words
  shown_words Shown text comes = comes.0
  shown_words (Damaged set page) text comes = comes.0
  shown_words Device text comes = comes.0
  shown_words NoMemory text comes = comes.0
  shown_words outcome text comes = absurd comes

  -- words of a command that is due are refused by none
  refused_due : (due : Outcome) → IsDue due words source.bytes volume volume_after
      → (IsCommand words → ⊥) → Meets Words due
  refused_due Played (inl is_due) none = absurd (none (inl is_due.0))
  refused_due Played (inr is_due) none = absurd (none (inr (inl (is_due.0, is_due.1, is_due.2))))
  refused_due Shown is_due none = absurd (none (inr (inr is_due.0)))
  refused_due (Deck line) is_due none = absurd (none (inl is_due.0))
  refused_due Long is_due none = absurd (none (inl is_due.0))
  refused_due Words is_due none = inl refl
  refused_due due is_due none = absurd is_due

  due_outcome : (outcome due : Outcome) (text : List ℕ)
      → IsDue due words source.bytes volume volume_after
      → (Rose source.faults source_after.faults → ⊥)
      → Comes outcome words source source_after volume volume_after trace text
      → Finds outcome volume volume_after trace → Meets outcome due
  due_outcome Words due text is_due sure comes finds = refused_due due is_due comes.0
  due_outcome outcome due text is_due sure comes finds = elim comes [
    | inl played ↦
        played_due outcome due text is_due (played_words outcome text played) sure played finds
    | inr other ↦ elim other [
      | inl made ↦ made_due outcome due text is_due made finds
      | inr shown ↦ shown_due outcome due text is_due (shown_words outcome text shown) shown finds
    ]
  ]

  gives_due : Concludes words source source_after sink sink_after volume volume_after status trace
      → GivesDue words source source_after sink sink_after volume volume_after status
  gives_due a due is_due sure_source sure_sink = elim a.delivered [
    | inl whole ↦ elim (due_outcome a.outcome due a.text is_due sure_source a.comes a.finds) [
      | inl same ↦ inl (whole.0 ∙ same)
      | inr none ↦ inr (whole.0 ∙ ap status_of none)
    ]
    | inr front ↦
        elim front [ inl failed ↦ absurd (sure_sink failed.1) | inr wanted ↦ inr wanted.0 ]
  ]

  -- the whole contract, by what the call comes to
  pub completes :
      Concludes words source source_after sink sink_after volume volume_after status trace
      → Traced volume volume_after trace
      → TakesAtMost (DECK_LIMIT + 1) source.bytes source_after.bytes
      → Completes words source source_after sink sink_after volume volume_after status trace
  completes concludes traced bounded = record {
    concludes = concludes;
    legal = traced.legal;
    opening = traced.opening;
    openings = traced.openings;
    fit = traced.fit;
    layout = traced.layout;
    sound = traced.sound;
    full = run_less 3200 3221 volume volume_after trace (omega arith) traced.full;
    course = traced.course;
    log_full = traced.log_full;
    space = traced.space;
    device = traced.device;
    only = traced.only;
    played = plays concludes;
    judged = judges concludes;
    summed = sums concludes;
    shown = shows concludes;
    no_command = no_words concludes;
    other_words = other_words concludes;
    unread = left_unread concludes;
    statuses = none_status concludes;
    deck = no_deck concludes;
    source_failed = no_source concludes;
    sink_failed = no_sink concludes;
    no_call = uncalled concludes;
    damaged = no_volume concludes;
    failed = volume_fails concludes;
    long = too_long concludes;
    due = gives_due concludes;
    bounded = bounded;
  }
