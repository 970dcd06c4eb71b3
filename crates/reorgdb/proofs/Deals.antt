-- From the run of lines to what the bytes or the words that ask for it come to.
use Rattle.std.proofs.Common.{◌≡◌, ◌≢◌, ℕ, List, [], ◌∷◌, Result, Ok, Err, IfOk, OnErr, refl, sym}
use Rattle.std.proofs.Common.{◌∙◌, subst, append-nil, inl, inr, ◌⊎◌, Option}
use Rattle.rg_base.specs.declared.bytes.Bytes.{Bytes}
use Rattle.rg_base.specs.declared.no_memory.NoMemory.{NoMemory as WantsMemory}
use Rattle.rg_print.specs.Print.{damaged_text}
use Rattle.rg_print.specs.declared.print.Close.{Close}
use Rattle.rg_print.specs.declared.print.Close.TheVariants as closes
use Rattle.rg_stmt.specs.declared.event.Entry.{Entry}
use Rattle.std.specs.List.{AllByRecursion}
use Rattle.rg_stmt.specs.declared.line.Line.{Line}
use Rattle.rg_stmt.specs.declared.line.Line.TheVariants.{Death, Flush, Reorg, Said, Show, Step}
use Rattle.rg_deck.specs.Grammar.{IsAdmitted, Lines}
use Rattle.rg_deck.specs.declared.read.Admits.TheVariants.{Every}
use Rattle.rg_outside.specs.Volume.{VolumeSeen}
use Rattle.rg_gen.specs.Deck.{IsOfSessions, deck_of}
use Rattle.rg_gen.proofs.Sessions.{each_of_sessions}
use Rattle.rg_run.specs.Judged.{JudgesRun}
use Rattle.rg_run.specs.Outside.{IsEnd}
use Rattle.rg_run.specs.Played.{IsPlayed, TraceOf, TraceOfFront}
use Rattle.rg_base.specs.declared.set.Set.{Set}
use Rattle.rg_run.specs.Table.{Ends, EndsAtOpening}
use Rattle.rg_run.specs.declared.played.RunEnd.{RunEnd}
use Rattle.rg_run.specs.declared.played.RunEnd.TheVariants as run_ends
use Rattle.rg_run.specs.declared.played.RunEnd.TheVariants.{Whole, Down as Ended}
use Rattle.rg_words.specs.Spelling.{IsAdmitted as Admitted, Spells}
use Rattle.rg_words.specs.declared.words.Words.{Words as Asked}
use Rattle.rg_words.specs.declared.words.Words.TheVariants as asks
use Rattle.rg_words.specs.declared.words.Admits.TheVariants as upto
use Rattle.reorgdb.specs.Answer.{AsksDeck, IsCommand, Comes, DealsWithBytes, DealsWithLines}
use Rattle.reorgdb.specs.Answer.{EndsAtDeath, MakesTo, PlaysTo, ReadsDeck, Seen, ShowsTo}
use Rattle.reorgdb.specs.Telling.{IsOfJudge, IsTold, TellsRun, run_text}
use Rattle.reorgdb.specs.declared.outcome.Outcome.{Outcome}
use Rattle.reorgdb.specs.declared.outcome.Outcome.TheVariants.{Played, Down, Words, Deck, Source}
use Rattle.reorgdb.specs.declared.outcome.Outcome.TheVariants.{Damaged, Long, NoMemory}
use Rattle.reorgdb.specs.declared.telling.Tells.{Tells}
use Rattle.reorgdb.specs.declared.telling.Tells.TheVariants.{Print, Verdict, Summary}

-- the trace of all lines is one of some first lines
pub TraceOfFront-whole : (lines : List Line) (trace : List Entry) → TraceOf lines trace
    → TraceOfFront lines trace
TraceOfFront-whole lines trace of = (lines, [], sym (append-nil lines), of)

front_of : (bytes : List ℕ) (lines : List Line) (trace : List Entry) → Lines bytes lines
    → (trace ≡ []) ⊎ TraceOfFront lines trace
    → (trace ≡ []) ⊎ ((lines : List Line) × Lines bytes lines × TraceOfFront lines trace)
front_of bytes lines trace spelled (inl none) = inl none
front_of bytes lines trace spelled (inr front) = inr (lines, spelled, front)

pub DealsWithBytes-lines : (tells : Tells) (volume volume_after : VolumeSeen) (outcome : Outcome)
    (bytes : List ℕ) (lines : List Line) (trace : List Entry) (text : List ℕ) → Lines bytes lines
    → DealsWithLines tells volume volume_after lines outcome trace text
    → DealsWithBytes tells volume volume_after bytes outcome trace text
DealsWithBytes-lines tells volume volume_after NoMemory bytes lines trace text spelled deals =
    front_of bytes lines trace spelled deals
DealsWithBytes-lines tells volume volume_after (Deck line) bytes lines trace text spelled deals =
    absurd deals
DealsWithBytes-lines tells volume volume_after outcome bytes lines trace text spelled deals =
    (lines, spelled, deals)

-- ---- what a run comes to, once its text was made, or there was no memory for it

tells_run : (tells : Tells) (volume volume_after : VolumeSeen) (trace : List Entry)
    (close : Close) (end : RunEnd) (verdict : Option ℕ) (made text : List ℕ)
    → end ≢ run_ends.NoMemory
    → (end ≢ run_ends.NoMemory → IsTold tells volume volume_after trace verdict)
    → text ≡ made → made ≡ run_text tells trace close verdict
    → TellsRun tells volume volume_after trace close text
tells_run tells volume volume_after trace close end verdict made text ends told same is =
    record {
      verdict = verdict;
      told = told ends;
      is = same ∙ is;
    }

pub tells_whole : (tells : Tells) (volume volume_after : VolumeSeen) (lines : List Line)
    (trace : List Entry) (rows : ℕ) (end : RunEnd) (verdict : Option ℕ)
    (made : Result Bytes WantsMemory) (outcome : Outcome) (text : List ℕ)
    → end ≡ Whole rows
    → IfOk made (λ p. p ≡ run_text tells trace (closes.Rows rows) verdict)
    → IfOk made (λ p. (outcome ≡ Played) × (text ≡ p)) → OnErr made (outcome ≡ NoMemory)
    → Ends volume volume_after lines trace end
    → (end ≢ run_ends.NoMemory → IsTold tells volume volume_after trace verdict)
    → DealsWithLines tells volume volume_after lines outcome trace text
tells_whole tells volume volume_after lines trace rows end verdict (Ok made) outcome text
    is printed came none ends told =
    let whole : Ends volume volume_after lines trace (Whole rows) =
    subst (Ends volume volume_after lines trace) is ends in
    let run : TellsRun tells volume volume_after trace (closes.Rows rows) text =
    tells_run tells volume volume_after trace (closes.Rows rows) end verdict made text
    (λ e. cc (e, is)) told came.1 printed in
    rw (came.0) (record { entries = whole.0; rows = rows; counted = whole.1; told = run })
tells_whole tells volume volume_after lines trace rows end verdict (Err e) outcome text
    is printed came none ends told =
    let whole : Ends volume volume_after lines trace (Whole rows) =
    subst (Ends volume volume_after lines trace) is ends in
    rw (none) (inr (TraceOfFront-whole lines trace whole.0))

pub tells_down : (tells : Tells) (volume volume_after : VolumeSeen) (lines : List Line)
    (trace : List Entry) (end : RunEnd) (verdict : Option ℕ)
    (made : Result Bytes WantsMemory) (outcome : Outcome) (text : List ℕ)
    → end ≡ Ended
    → IfOk made (λ p. p ≡ run_text tells trace closes.Down verdict)
    → IfOk made (λ p. (outcome ≡ Down) × (text ≡ p)) → OnErr made (outcome ≡ NoMemory)
    → Ends volume volume_after lines trace end
    → (end ≢ run_ends.NoMemory → IsTold tells volume volume_after trace verdict)
    → DealsWithLines tells volume volume_after lines outcome trace text
tells_down tells volume volume_after lines trace end verdict (Ok made) outcome text is
    printed came none ends told =
    let down : Ends volume volume_after lines trace Ended =
    subst (Ends volume volume_after lines trace) is ends in
    let run : TellsRun tells volume volume_after trace closes.Down text =
    tells_run tells volume volume_after trace closes.Down end verdict made text
    (λ e. cc (e, is)) told came.1 printed in
    rw (came.0) (inl (record { entries = down.0; down = down.1; told = run }))
tells_down tells volume volume_after lines trace end verdict (Err e) outcome text is
    printed came none ends told =
    let down : Ends volume volume_after lines trace Ended =
    subst (Ends volume volume_after lines trace) is ends in
    rw (none) (inr (TraceOfFront-whole lines trace down.0))

-- an opening was refused, so the trace is that of the lines before a death, where there is one
at_death : (lines : List Line) (trace : List Entry) → EndsAtOpening lines trace → trace ≢ []
    → EndsAtDeath lines trace
at_death lines trace (inl none) some = absurd (some none)
at_death lines trace (inr dies) some =
    record { front = dies.0; rest = dies.1; joined = dies.2; entries = dies.3 }

front_at : (lines : List Line) (trace : List Entry) → EndsAtDeath lines trace
    → TraceOfFront lines trace
front_at lines trace dies = (dies.front, Death ∷ dies.rest, dies.joined, dies.entries)

pub tells_stopped : (tells : Tells) (volume volume_after : VolumeSeen) (lines : List Line)
    (trace : List Entry) (end : RunEnd) (verdict : Option ℕ)
    (made : Result Bytes WantsMemory) (outcome : Outcome) (text : List ℕ)
    → end ≡ run_ends.DeviceAtOpening → trace ≢ []
    → IfOk made (λ p. p ≡ run_text tells trace closes.Down verdict)
    → IfOk made (λ p. (outcome ≡ Down) × (text ≡ p)) → OnErr made (outcome ≡ NoMemory)
    → Ends volume volume_after lines trace end → IsEnd volume volume_after trace end
    → (end ≢ run_ends.NoMemory → IsTold tells volume volume_after trace verdict)
    → DealsWithLines tells volume volume_after lines outcome trace text
tells_stopped tells volume volume_after lines trace end verdict (Ok made) outcome text is
    some printed came none ends is_end told =
    let at : Ends volume volume_after lines trace run_ends.DeviceAtOpening =
    subst (Ends volume volume_after lines trace) is ends in
    let run : TellsRun tells volume volume_after trace closes.Down text =
    tells_run tells volume volume_after trace closes.Down end verdict made text
    (λ e. cc (e, is)) told came.1 printed in
    let failed : IsEnd volume volume_after trace run_ends.DeviceAtOpening =
    subst (IsEnd volume volume_after trace) is is_end in
    rw (came.0) (inr ((at_death lines trace at some, run), failed.1))
tells_stopped tells volume volume_after lines trace end verdict (Err e) outcome text is
    some printed came none ends is_end told =
    let at : Ends volume volume_after lines trace run_ends.DeviceAtOpening =
    subst (Ends volume volume_after lines trace) is ends in
    rw (none) (inr (front_at lines trace (at_death lines trace at some)))

pub tells_damaged : (tells : Tells) (volume volume_after : VolumeSeen) (lines : List Line)
    (trace : List Entry) (set : Set) (page : ℕ) (end : RunEnd) (verdict : Option ℕ)
    (made : Result Bytes WantsMemory) (outcome : Outcome) (text : List ℕ)
    → end ≡ run_ends.Damaged set page → trace ≢ []
    → IfOk made (λ p. p ≡ run_text tells trace (closes.Damaged set page) verdict)
    → IfOk made (λ p. (outcome ≡ Damaged set page) × (text ≡ p)) → OnErr made (outcome ≡ NoMemory)
    → Ends volume volume_after lines trace end
    → (end ≢ run_ends.NoMemory → IsTold tells volume volume_after trace verdict)
    → DealsWithLines tells volume volume_after lines outcome trace text
tells_damaged tells volume volume_after lines trace set page end verdict (Ok made)
    outcome text is some printed came none ends told =
    let at : Ends volume volume_after lines trace (run_ends.Damaged set page) =
    subst (Ends volume volume_after lines trace) is ends in
    let run : TellsRun tells volume volume_after trace (closes.Damaged set page) text =
    tells_run tells volume volume_after trace (closes.Damaged set page) end verdict made text
    (λ e. cc (e, is)) told came.1 printed in
    rw (came.0) (inr (at_death lines trace at some, run))
tells_damaged tells volume volume_after lines trace set page end verdict (Err e) outcome
    text is some printed came none ends told =
    let at : Ends volume volume_after lines trace (run_ends.Damaged set page) =
    subst (Ends volume volume_after lines trace) is ends in
    rw (none) (inr (front_at lines trace (at_death lines trace at some)))

-- the first opening found the page, so the volume is refused
pub refuses_damaged : (tells : Tells) (volume volume_after : VolumeSeen) (lines : List Line)
    (trace : List Entry) (set : Set) (page : ℕ) (made : Result Bytes WantsMemory)
    (outcome : Outcome) (text : List ℕ)
    → trace ≡ [] → IfOk made (λ p. p ≡ damaged_text set page)
    → IfOk made (λ p. (outcome ≡ Damaged set page) × (text ≡ p)) → OnErr made (outcome ≡ NoMemory)
    → DealsWithLines tells volume volume_after lines outcome trace text
refuses_damaged tells volume volume_after lines trace set page (Ok made) outcome text same printed
    came none = rw (came.0) (inl (same, came.1 ∙ printed))
refuses_damaged tells volume volume_after lines trace set page (Err e) outcome text same printed
    came none = rw (none) (inl same)

-- what the judge says of a run that did not run out of memory
is_of_judge :
    (volume volume_after : VolumeSeen) (trace : List Entry) (end : RunEnd) (verdict : Option ℕ)
    → JudgesRun volume volume_after trace end verdict → end ≢ run_ends.NoMemory
    → IsOfJudge volume volume_after trace verdict
is_of_judge volume volume_after trace run_ends.NoMemory verdict judged ends = absurd (ends refl)
is_of_judge volume volume_after trace end verdict judged ends = judged

pub judged_run : (tells : Tells) (volume volume_after : VolumeSeen) (trace : List Entry)
    (end : RunEnd) (verdict : Option ℕ) → JudgesRun volume volume_after trace end verdict
    → end ≢ run_ends.NoMemory → IsTold tells volume volume_after trace verdict
judged_run (Print full) volume volume_after trace end verdict judged ends = tt
judged_run Verdict volume volume_after trace end verdict judged ends =
    is_of_judge volume volume_after trace end verdict judged ends
judged_run (Summary seed rows) volume volume_after trace end verdict judged ends =
    is_of_judge volume volume_after trace end verdict judged ends

-- ---- what a call comes to

-- whose words and bytes were read
pub plays_read : (outcome : Outcome) (tells : Tells) (words : List (List ℕ)) (before after : Seen)
    (volume volume_after : VolumeSeen) (bytes : List ℕ) (trace : List Entry) (text : List ℕ)
    → AsksDeck tells words → ReadsDeck before bytes after
    → DealsWithBytes tells volume volume_after bytes outcome trace text
    → PlaysTo outcome words before after volume volume_after trace text
plays_read Source tells words before after volume volume_after bytes trace text asked reads deals =
    absurd deals.2
plays_read Long tells words before after volume volume_after bytes trace text asked reads deals =
    absurd deals.2
plays_read NoMemory tells words before after volume volume_after bytes trace text asked reads
    deals = ((tells, asked), inr (bytes, reads, deals))
plays_read outcome tells words before after volume volume_after bytes trace text asked reads deals =
    ((tells, asked), bytes, reads, deals)

-- whose words ask for a deck that is read
pub comes_played : (outcome : Outcome) (words : List (List ℕ)) (before after : Seen)
    (volume volume_after : VolumeSeen) (trace : List Entry) (text : List ℕ)
    → PlaysTo outcome words before after volume volume_after trace text
    → Comes outcome words before after volume volume_after trace text
comes_played Words words before after volume volume_after trace text plays = absurd plays.3.2
comes_played outcome words before after volume volume_after trace text plays = inl plays

-- for one that is made
pub comes_made : (outcome : Outcome) (words : List (List ℕ)) (before after : Seen)
    (volume volume_after : VolumeSeen) (trace : List Entry) (text : List ℕ)
    → MakesTo outcome words before after volume volume_after trace text
    → Comes outcome words before after volume volume_after trace text
comes_made Words words before after volume volume_after trace text makes = absurd makes.4
comes_made outcome words before after volume volume_after trace text makes = inr (inl makes)

-- for a layout
pub comes_shown : (outcome : Outcome) (words : List (List ℕ)) (before after : Seen)
    (volume volume_after : VolumeSeen) (trace : List Entry) (text : List ℕ)
    → ShowsTo outcome words before after volume volume_after trace text
    → Comes outcome words before after volume volume_after trace text
comes_shown Words words before after volume volume_after trace text shows = absurd shows
comes_shown outcome words before after volume volume_after trace text shows = inr (inr shows)

-- words that are read as no command ask for none
pub no_command : (words : List (List ℕ))
    → ((asked : Asked) → Spells asked words → Admitted upto.Gen asked → ⊥) → IsCommand words → ⊥
no_command words none (inl deck) = no_deck deck.0 deck.1
  where
    no_deck : (tells : Tells) → AsksDeck tells words → ⊥
    no_deck (Print full) asked = none (asks.Play full) asked refl
    no_deck Verdict asked = none asks.Judge asked refl
    no_deck (Summary seed rows) asked = asked
no_command words none (inr (inl made)) = none (asks.Gen made.0 made.1) made.2 refl
no_command words none (inr (inr show)) = none asks.Layout show refl

-- ---- every line of the grammar is played, and every line of a deck that is made

each_played : (line : Line) → IsAdmitted Every line → IsPlayed line
each_played (Said session stmt) is = is.0.0
each_played (Reorg options) is = tt
each_played Step is = tt
each_played Flush is = tt
each_played Show is = tt
each_played Death is = tt

pub all_played : (lines : List Line) → AllByRecursion (IsAdmitted Every) lines
    → AllByRecursion IsPlayed lines
all_played [] all = tt
all_played (line ∷ lines) all = (each_played line all.0, all_played lines all.1)

each_made : (line : Line) → IsOfSessions line → IsPlayed line
each_made (Said session stmt) is = is
each_made (Reorg options) is = tt
each_made Step is = tt
each_made Flush is = tt
each_made Show is = tt
each_made Death is = absurd is

all_made : (lines : List Line) → AllByRecursion IsOfSessions lines → AllByRecursion IsPlayed lines
all_made [] all = tt
all_made (line ∷ lines) all = (each_made line all.0, all_made lines all.1)

pub made_played : (seed rows : ℕ) → AllByRecursion IsPlayed (deck_of seed rows)
made_played seed rows = all_made (deck_of seed rows) (each_of_sessions seed rows)
