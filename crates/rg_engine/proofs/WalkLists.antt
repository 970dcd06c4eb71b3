-- Walks in lists of records that grow.
use Rattle.std.proofs.Common.{◌≡◌, ◌<◌, ◌≤◌, ◌+◌, ◌-◌, ℕ, List, [], ◌∷◌, ◌++◌, Some, length, ◌∙◌}
use Rattle.std.proofs.Common.{ap, arith}
use Rattle.std.specs.Prelude.{slice_get}
use Rattle.std.proofs.lemmas.Option.{slice_get_within, slice_get-get_or, get_or_from_slice_get}
use Rattle.std.proofs.lemmas.List.{length-append}
use Rattle.std.proofs.Math.ListN.{get_or-append}
use Rattle.std.proofs.Math.Seq.{get_or-append_seam}
use Rattle.rg_record.specs.declared.record.Record.{Record}
use Rattle.rg_laws_log.specs.LogState.Write.{Write}
use Rattle.rg_engine.specs.RecordList.{record_at}
use Rattle.rg_engine.specs.Undoing.{ChainTo}
use Rattle.rg_engine.specs.Walks.{Walks, change_record}

-- what is there stays there
pub got_longer : (rs more : List Record) (i : ℕ) (r : Record) → slice_get rs i ≡ Some r
    → slice_get (rs ++ more) i ≡ Some r
got_longer rs more i r e =
    let within : i < length rs = slice_get_within rs i r e in
    slice_get-get_or (rs ++ more) i r (omega (arith, length-append rs more))
    ∙ ap (λ (x : Record). Some x)
    (get_or-append rs more r i within ∙ get_or_from_slice_get rs i r r e)

-- the record that is appended
pub got_last : (rs : List Record) (r : Record) → record_at (rs ++ r ∷ []) (length rs + 1) ≡ Some r
got_last rs r =
    let at : length rs + 1 - 1 ≡ length rs = omega arith in
    ap (slice_get (rs ++ r ∷ [])) at
    ∙ slice_get-get_or (rs ++ r ∷ []) (length rs) r (omega (arith, length-append rs (r ∷ [])))
    ∙ ap (λ (x : Record). Some x) (get_or-append_seam rs r [] r)

pub walks_longer : (rs more : List Record) (t last : ℕ) (ws : List Write) → Walks rs t last ws
    → Walks (rs ++ more) t last ws
walks_longer rs more t last [] h = h
walks_longer rs more t last (w ∷ ws) h = (
  h.0,
  h.1,
  got_longer rs more (last - 1) (change_record last t h.0 w) h.2,
  walks_longer rs more t h.0 ws h.3,
)

-- the last record of a unit is there, or it has none
pub walks_within : (rs : List Record) (t last : ℕ) (ws : List Write) → Walks rs t last ws
    → last ≤ length rs
walks_within rs t last [] h = omega (arith, h)
walks_within rs t last (w ∷ ws) h =
    omega (arith, h.1, slice_get_within rs (last - 1) (change_record last t h.0 w) h.2)

-- one write more
pub walks_more : (rs : List Record) (t last : ℕ) (w : Write) (ws : List Write) → Walks rs t last ws
    → Walks (rs ++ change_record (length rs + 1) t last w ∷ []) t (length rs + 1) (w ∷ ws)
walks_more rs t last w ws h =
    let r : Record = change_record (length rs + 1) t last w in (
      last,
      omega (arith, walks_within rs t last ws h),
      got_last rs r,
      walks_longer rs (r ∷ []) t last ws h,
    )

-- so does a chain
pub chain_longer : (records more : List Record) (t at : ℕ) (rest : List Write) (last : ℕ)
    (ws : List Write) (cs : List Record)
    → ChainTo records t at rest last ws cs → ChainTo (records ++ more) t at rest last ws cs
chain_longer records more t at rest last ws [] h = h
chain_longer records more t at rest last [] (r ∷ cs) h = absurd h
chain_longer records more t at rest last (w ∷ ws) (r ∷ cs) h = (
  h.0,
  h.1,
  h.2,
  got_longer records more (last - 1) (change_record last t h.0 w) h.3,
  chain_longer records more t at rest h.0 ws cs h.4,
)

-- a chain has a record for each write, but for those that are left
pub chain_length : (records : List Record) (t at : ℕ) (rest : List Write) (last : ℕ)
    (ws : List Write) (cs : List Record)
    → ChainTo records t at rest last ws cs → length ws ≡ length cs + length rest
chain_length records t at rest last ws [] h = omega (arith, ap length h.1)
chain_length records t at rest last [] (r ∷ cs) h = absurd h
chain_length records t at rest last (w ∷ ws) (r ∷ cs) h =
    omega (arith, chain_length records t at rest h.0 ws cs h.4)
