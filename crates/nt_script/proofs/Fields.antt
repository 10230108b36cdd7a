-- What a writer has taken after a field is added.
use Rattle.std.proofs.Common.{◌≡◌, inl, ℕ, ◌+◌, ◌<◌, true, List, [], ◌∷◌, ◌++◌, length, map, Result, Ok, Err}
use Rattle.std.proofs.Common.{sym, ap, ◌∙◌, subst, append-nil, arith}
use Rattle.std.proofs.lemmas.List.Sums.{sum_by-append}
use Rattle.nt_lists.specs.Chunks.{chunks}
use Rattle.nt_types.specs.ShapeData.{MemberData}
use Rattle.nt_types.specs.TreeData.{TreesData}
use Rattle.nt_types.specs.LineSpelling.{IsMember}
use Rattle.nt_types.specs.Lines.{member_of}
use Rattle.nt_types.specs.declared.fault.SchemaKind.{SchemaKind}
use Rattle.nt_event.specs.declared.lines.Line as given
use Rattle.nt_outside.specs.Disk.{DiskState}
use Rattle.nt_grammar.specs.Added.{Added}
use Rattle.nt_grammar.specs.AsRead.{as_read}
use Rattle.nt_grammar.specs.Table.{Table}
use Rattle.nt_plans.specs.Place.{place}
use Rattle.nt_plans.specs.Late.{GrowsBy}
use Rattle.nt_machine.specs.History.{Cluster}
use Rattle.nt_book.specs.declared.meta.ClusterMeta.{ClusterMeta}
use Rattle.nt_book.specs.Books.{book_clusters, entry_count}
use Rattle.nt_book.specs.declared.params.Params.{Params}
use Rattle.nt_finished.specs.LeftOut.{filled}
use Rattle.nt_seq.specs.Writer.{SeqState}
use Rattle.nt_seq.specs.Written.{HasWritten, entries_of_clusters, zero_behind}
use Rattle.nt_seq.specs.Changing.{GainsField}
use Rattle.nt_script.specs.declared.error.LineFault.TheVariants.{Event, Field}
use Rattle.nt_script.specs.declared.error.ScriptError.{ScriptError}
use Rattle.nt_script.specs.declared.error.ScriptError.TheVariants.{Line, Limit, Outside, Memory}
use Rattle.nt_script.specs.Script.{behind_plus, beside, read_beside}
use Rattle.nt_script.specs.Reading.{Segment, segment_metas}
use Rattle.nt_script.specs.Taking.{clusters_of_segments, GrowsBySegments, HasJustFields}
use Rattle.nt_script.specs.Adding.{IsMemberError, IsBesideError, IsWrittenOut, GainsFieldBehind, ExtendsScript}
use Rattle.nt_script.specs.Events.{IsFieldError, WritesBeforeField, TakesField}
use Rattle.nt_script.proofs.Segments.{segments-next, entries_of_segments, entries-chunks, entries-segments, grows-next, metas-next}
use Rattle.nt_script.proofs.Tables.{added-just}

module _ {D : Type 0} (state : D → DiskState) (first : Table) (F : List MemberData) (m : MemberData) (segments : List Segment)
    (es : List TreesData) where
  abbrev over : List ClusterMeta → Segment
  over metas = record { entries = es; field = m; metas = metas }

  -- all entries before the field
  entries_before : (w : SeqState D) → 0 < w.params.cluster
      → entries_of_clusters (clusters_of_segments w.params.cluster segments ++ chunks w.params.cluster es)
      ≡ entries_of_segments segments + length es
  entries_before w some =
      omega (
        arith,
        sum_by-append (λ (c : List TreesData). length c) (clusters_of_segments w.params.cluster segments) (chunks w.params.cluster es),
        entries-segments w.params.cluster segments some,
        entries-chunks w.params.cluster es some,
      )

  pub field_gained : (line : List ℕ) (old new : SeqState D) → IsMember line m → IsWrittenOut state first F segments es old
      → beside F m ≡ Ok m → old.alive ≡ true
      → ((clusters : List (List TreesData)) → HasWritten state old clusters → entry_count (book_clusters old.book)
      ≡ entries_of_clusters clusters)
      → GrowsBy old.table new.table (place new.table.fields new.table.columns (as_read m.of) (length old.table.fields))
      → GainsField state m old new → (G : List MemberData) → G ≡ F ++ m ∷ []
      → GainsFieldBehind state first F G m segments es old new
  field_gained line old new member out is alive counted grows gains G fields =
      let params : new.params ≡ old.params = ap (λ (w : SeqState D). w.params) gains.now in
      let n = old.params.cluster in
      let before : entry_count (book_clusters old.book) ≡ 0 + entries_of_segments segments + length es =
      counted _ out.written.written ∙ (entries_before old out.some ∙ omega arith) in
      let added : Added old.table m old.params.plain (0 + entries_of_segments segments + length es) new.table =
      subst (λ (k : ℕ). Added old.table m old.params.plain k new.table) before gains.added in
      let written : HasWritten state new (map (filled (zero_behind m)) (clusters_of_segments n segments ++ chunks n es)) =
      gains.written _ out.written.written in
      let own = out.written.keeps.own in
      let all : HasWritten state new (clusters_of_segments n (segments ++ over own ∷ []) ++ []) =
      subst (HasWritten state new)
      (sym (append-nil (clusters_of_segments n (segments ++ over own ∷ [])) ∙ segments-next n segments (over own)))
      written in
      record {
        beside_is = is;
        fields = fields;
        metas = own;
        grown = record {
          grows = subst (λ (p : Params). GrowsBySegments p first 0 (segments ++ over own ∷ []) new.table) (sym params)
              (grows-next old.params first 0 segments old.table (over own) new.table out.grown.grows added out.written.keeps.kept);
          just = subst (λ (l : List MemberData). HasJustFields l new.table) (sym fields)
              (added-just F line m out.grown.just.rules member is old.table new.table old.params.plain
              (entry_count (book_clusters old.book)) out.grown.just grows gains.added);
        };
        taken = record {
          full = [];
          written = subst
              (λ (p : Params). HasWritten state new (clusters_of_segments p.cluster (segments ++ over own ∷ []) ++ [])) (sym params)
              all;
          sizes = tt;
          whole = sym gains.none;
          keeps = record {
            own = [];
            kept = tt;
            metas = ap (map (λ (c : Cluster ClusterMeta). c.meta)) gains.clusters
                ∙ (out.written.keeps.metas
                ∙ (sym (metas-next segments (over own)) ∙ sym (append-nil (segment_metas (segments ++ over own ∷ [])))));
          };
        };
        is_open = record {
          alive = ap (λ (w : SeqState D). w.alive) gains.now ∙ alive;
          room = subst (λ (l : List TreesData). length l < new.params.cluster) (sym gains.none)
              (subst (λ (p : Params). 0 < p.cluster) (sym params) out.some);
        };
        params = params;
      }

-- what stands against a field stands against its line
beside_error : (F : List MemberData) (m : MemberData) (line : given.Line) (e : ScriptError)
    → member_of (behind_plus line.bytes) ≡ Ok m → IsBesideError F m line.number e → IsFieldError F line e
beside_error F m line (Line number (Event kind)) read h = absurd h
beside_error F m line (Line number (Field kind)) read h =
    (h.0, ap (λ (r : Result MemberData SchemaKind). read_beside F r) read ∙ h.1)
beside_error F m line (Limit error) read h = absurd h
beside_error F m line Outside read h = absurd h
beside_error F m line Memory read h = tt

-- so does what is wrong with what it says of its field
pub member_error : (F : List MemberData) (line : given.Line) (e : ScriptError) → IsMemberError line e → IsFieldError F line e
member_error F line (Line number (Event kind)) h = absurd h
member_error F line (Line number (Field kind)) h = (h.0, ap (λ (r : Result MemberData SchemaKind). read_beside F r) h.1)
member_error F line (Limit error) h = absurd h
member_error F line Outside h = absurd h
member_error F line Memory h = tt

-- a field that was added behind what was written is that of its line
pub field_taken : {D : Type 0} (state : D → DiskState) (first : Table) (F G : List MemberData) (m : MemberData) (segments : List Segment)
    (es : List TreesData) (line : given.Line) (old mid new : SeqState D) (result : Result Unit ScriptError)
    → member_of (behind_plus line.bytes) ≡ Ok m → WritesBeforeField state segments es old mid
    → ExtendsScript state first F G m segments es line.number mid new result
    → TakesField state first F G segments es line old new result
field_taken state first F G m segments es line old mid new (Ok done) read before h = record {
  field = m;
  read = ap (λ (r : Result MemberData SchemaKind). read_beside F r) read ∙ h.beside_is;
  fields = h.fields;
  metas = h.metas;
  grown = h.grown;
  taken = h.taken;
  is_open = h.is_open;
  params = h.params ∙ before.same.params;
}
field_taken state first F G m segments es line old mid new (Err error) read before h = inl (record {
  why = beside_error F m line error read h.0;
  before = λ apart. subst (WritesBeforeField state segments es old) (sym (h.1 apart)) before;
})
