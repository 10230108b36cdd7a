-- What is made: event texts, the chunks that they make, and the lines of their totals.
use Rattle.std.specs.Prelude.{◌≡◌, ℕ, ◌≤◌, List, map}
use Rattle.std.specs.List.{AllByRecursion, range_with_len}
use Rattle.nt_lists.specs.Chunks.{chunks}
use Rattle.nt_types.specs.TreeData.{TreesData}
use Rattle.nt_grammar.specs.Table.{Table}
use Rattle.nt_grammar.specs.Rows.{Rows}
use Rattle.nt_machine.specs.Deal.{Uses, IsDeal}
use Rattle.nt_machine.specs.History.{Cluster}
use Rattle.nt_book.specs.declared.meta.ClusterMeta.{ClusterMeta}
use Rattle.nt_book.specs.declared.params.Params.{Params}
use Rattle.nt_book.specs.Books.{book_clusters}
use Rattle.nt_layout.specs.Laid.{IsLaid}
use Rattle.nt_file_meaning.specs.Files.{Means}
use Rattle.nt_close.specs.Passing.{measures_of}
use Rattle.nt_dealing.specs.Texts.{AreSound, joined_chunks, chunks_of}
use Rattle.nt_dealing.specs.Limits.{IsOver}
use Rattle.nt_draws.specs.Events.{event_fields, made_events}
use Rattle.nt_draws.specs.Lines.{events_text}
use Rattle.nt_draws.specs.declared.making.Making.{Making}
use Rattle.nt_generate.specs.MadeTotals.{made_totals_lines}

-- the event text of each context
abbrev pub made_texts : Making → List (List ℕ)
made_texts m = map (events_text m.events) (range_with_len m.seed m.contexts)

-- the chunks of each context
abbrev pub made_chunks : Params → Making → List (List (List TreesData))
made_chunks p m = map (chunks p.cluster) (made_events m.contexts m.events m.seed)

-- the lines of the totals
abbrev pub made_lines : Params → Making → List ℕ
made_lines p m = made_totals_lines p.cluster m.contexts m.events m.seed

-- a file means the schema of the events and the chunks of all contexts, dealt out in an order of commits, and is laid out for them
pub record IsMade (p : Params) (m : Making) (order bytes : List ℕ) : Type 0 where
  pub uses : Uses order (made_chunks p m)
  pub dealt : List (List TreesData)
  pub is_deal : IsDeal (made_chunks p m) order dealt
  pub table : Table
  pub rows : Rows event_fields p.plain table
  pub laid : IsLaid bytes table dealt (measures_of p)
  -- no cluster is longer than a range may get
  pub short : AllByRecursion (λ (c : Cluster ClusterMeta). c.len ≤ p.limits.range) (book_clusters laid.book)
  pub means : Means bytes table dealt

-- the chunks of what is made pass this limit
pub record PassesMade (p : Params) (m : Making) (reached most : ℕ) : Type 0 where
  pub table : Table
  pub rows : Rows event_fields p.plain table
  pub over : IsOver table p (joined_chunks (made_chunks p m)) reached most

-- the texts that are made have no bad line, and their chunks are those of the events
pub record MadeAreRead (m : Making) : Type 0 where
  pub sound : AreSound event_fields (made_texts m)
  pub chunks : (most : ℕ) → chunks_of most event_fields (made_texts m) ≡ map (chunks most) (made_events m.contexts m.events m.seed)
