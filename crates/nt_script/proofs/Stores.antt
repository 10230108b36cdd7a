-- The parts of the writing of a script's file over a host, joined.
use Rattle.std.proofs.Common.{◌≡◌, ◌∙◌, inl, inr, ap, sym, subst, refl, ℕ, List, [], ◌∷◌, ◌++◌, length, take, drop, Some}
use Rattle.std.proofs.Common.{Result, Ok, Err, append_assoc, arith}
use Rattle.std.proofs.lemmas.List.{append-nil, take-append-drop}
use Rattle.nt_types.specs.ShapeData.{MemberData}
use Rattle.nt_outside.specs.declared.fault.Failed.{Failed}
use Rattle.nt_outside.specs.declared.stream.Stream.TheVariants.{ToOut}
use Rattle.nt_outside.specs.Log.{Step}
use Rattle.nt_outside.specs.Order.{EndsInSync}
use Rattle.nt_outside.specs.Source.{SourceState}
use Rattle.nt_outside.specs.World.{World, Asked, Text, Out, HostState, PrintsAll, prints, file}
use Rattle.nt_book.specs.declared.params.Params.{Params}
use Rattle.nt_store.specs.Stored.{asked_for}
use Rattle.nt_store.specs.Schemas.{AsksSchemaFirst}
use Rattle.nt_store.specs.Worlds.{AsksFirst, LeavesOut, MakesDisk, IsWrittenInOrder, IsLeftAfter}
use Rattle.nt_store.proofs.Asking.{asks_front, is_schema}
use Rattle.nt_store.proofs.Crashing.{or_as}
use Rattle.nt_store.proofs.Refused.{world_is}
use Rattle.nt_script.specs.declared.storing.Counts.{Counts}
use Rattle.nt_script.specs.declared.store_error.ScriptStoreError.{ScriptStoreError}
use Rattle.nt_script.specs.declared.store_error.ScriptStoreError.TheVariants.{Outside, Memory, Schema, Line, Limit}
use Rattle.nt_script.specs.Whole.{clusters_of_text, IsScriptFile, counts_line, line_of_clusters}
use Rattle.nt_script.specs.Crashes.{ScriptCrash, LeavesScript}
use Rattle.nt_script.specs.Storing.{FilesTold, FilesText, AreScriptTexts, StoresWholeScript, IsWholeScript, ScriptTold}
use Rattle.nt_script.specs.Storing.{StoresScript}
use Rattle.nt_script.proofs.Opened.{HasOpened}

module _ (out schema input : List ℕ) (p : Params) (fields : List MemberData) (old mid : HostState) (text : SourceState)
    (have : HasOpened schema input fields old mid text) where
  abbrev all_asked : List Asked
  all_asked = asked_for out schema (input ∷ [])

  asked_last : (new : List Asked) → AsksFirst (Out out ∷ []) mid.asked new → AsksFirst all_asked old.asked new
  asked_last new (n, is) =
      asks_front old.asked new all_asked (Text schema ∷ Text input ∷ take n (Out out ∷ [])) (drop n (Out out ∷ []))
      (is ∙ (ap (λ (l : List Asked). l ++ take n (Out out ∷ [])) have.asked
      ∙ append_assoc old.asked (Text schema ∷ Text input ∷ []) (take n (Out out ∷ []))))
      (ap (λ (l : List Asked). Text schema ∷ Text input ∷ l) (sym (take-append-drop n (Out out ∷ []))))

  asked_every : (new : List Asked) → new ≡ mid.asked ++ Out out ∷ [] → new ≡ old.asked ++ all_asked
  asked_every new is =
      is ∙ (ap (λ (l : List Asked). l ++ Out out ∷ []) have.asked
      ∙ append_assoc old.asked (Text schema ∷ Text input ∷ []) (Out out ∷ []))

  -- a whole file of the text is one of the host's script
  whole_script : (w : World) (bytes : List ℕ) → AreScriptTexts w schema input fields bytes → (image : List ℕ)
      → IsScriptFile p fields bytes image → IsWholeScript schema input p w image
  whole_script w bytes are image whole = record { fields = fields; text = bytes; are = are; whole = whole }

  -- ---- the file isn't written

  unfiled_told : (w w' : World) (bytes : List ℕ) → AreScriptTexts w schema input fields bytes → w'.out ≡ w.out → (e : ScriptStoreError)
      → FilesTold out p fields bytes w w' (Err e) → ScriptTold out schema input p w w' (Err e)
  unfiled_told w w' bytes are same Outside (inl left) = inl (left, same)
  unfiled_told w w' bytes are same Outside (inr (whole, ends)) = inr (inl (
    line_of_clusters (clusters_of_text p fields bytes),
    record {
      fields = fields;
      text = bytes;
      are = are;
      file = whole;
      line = refl;
      gained = same ∙ sym (append-nil w.out);
    },
    ends,
  ))
  unfiled_told w w' bytes are same Memory left = (left, same)
  unfiled_told w w' bytes are same (Line line kind) (bad, left) =
      (record { fields = fields; text = bytes; are = are; bad = bad }, left, same)
  unfiled_told w w' bytes are same (Limit reached most) (over, left) =
      (record { fields = fields; text = bytes; are = are; over = over }, left, same)
  unfiled_told w w' bytes are same (Schema line kind) told = absurd told

  -- the schema text is one
  schema_found : (new : HostState) → AsksSchemaFirst schema old new
  schema_found new w is bad = absurd (bad (is_schema (file w schema) fields (have.are w is).2.schema_is))

  crash_as : (P Q : List ℕ → Type 0) (log : List Step) → ((bytes : List ℕ) → P bytes → Q bytes) → (e : ScriptStoreError)
      → ScriptCrash {T = Counts} P log (Err e) → ScriptCrash {T = Unit {0}} Q log (Err e)
  crash_as P Q log turn Outside leaves = or_as P Q log turn leaves
  crash_as P Q log turn Memory leaves = leaves
  crash_as P Q log turn (Schema line kind) leaves = leaves
  crash_as P Q log turn (Line line kind) leaves = leaves
  crash_as P Q log turn (Limit reached most) leaves = leaves

  pub stores_unfiled : (new : HostState) (e : ScriptStoreError) → FilesText out p fields text mid new (Err e)
      → StoresScript out schema input p old new (Err e)
  stores_unfiled new e files = record {
    told = λ w is.
        let script = have.are w is in
        let back = files.told w script.0 (have.world ∙ is) script.1 in
        (back.0, back.1, back.2, back.4, unfiled_told w back.0 script.0 script.2 back.3 e back.5);
    order = λ w w' is is' made. files.order w w' (have.world ∙ is) is' made;
    crash = λ w w' is is' made.
        let script = have.are w is in
        let left = files.crash script.0 script.1 w w' (have.world ∙ is) is' made in
        record {
          at = left.at;
          log = left.log;
          there = left.there;
          steps = left.steps;
          leaves = crash_as (IsScriptFile p fields script.0) (IsWholeScript schema input p w) left.log
              (whole_script w script.0 script.2) e left.leaves;
        };
    asked = asked_last new.asked files.asked;
    schema_first = schema_found new;
    cause = record {
      later = omega (arith, have.later, files.cause.later);
      failed = λ is. let rose = files.cause.failed (cc is) in omega (arith, have.later, rose);
    };
    back = record {
      err_faults = files.err_faults ∙ have.err_faults;
      opened = omega (arith, have.opened, files.opened);
    };
  }

  -- ---- it is, and its numbers are told, or a front of their line

  module _ (filed new : HostState) (counts : Counts) (files : FilesText out p fields text mid filed (Ok counts))
      (result : Result Unit Failed) (told : PrintsAll ToOut (counts_line counts.clusters counts.entries) filed new result) where
    abbrev line : List ℕ
    line = counts_line counts.clusters counts.entries

    stored : (w w1 : World) (bytes printed behind : List ℕ) → AreScriptTexts w schema input fields bytes → w1.out ≡ w.out
        → FilesTold out p fields bytes w w1 (Ok counts) → line ≡ printed ++ behind
        → StoresWholeScript out schema input p w (prints ToOut printed w1) printed behind
    stored w w1 bytes printed behind are same (makes, ends, numbers) is = record {
      fields = fields;
      text = bytes;
      are = are;
      file = record { made = makes.made; bytes = makes.bytes; file_is = makes.file_is; whole = makes.whole };
      line = sym (ap (λ (n : ℕ). counts_line n counts.entries) numbers.clusters
          ∙ ap (λ (n : ℕ). counts_line (length (clusters_of_text p fields bytes)) n) numbers.entries) ∙ is;
      gained = ap (λ (l : List ℕ). l ++ printed) same;
    }

    -- a print leaves the steps of the file
    left_after_print : (w1 : World) (printed : List ℕ) → IsLeftAfter EndsInSync out w1
        → IsLeftAfter EndsInSync out (prints ToOut printed w1)
    left_after_print w1 printed left =
        record { at = left.at; log = left.log; there = left.there; steps = left.steps; ends = left.ends }

    -- what was printed, and the world then
    printed_at : (w1 : World) → filed.world ≡ Some w1 → (printed : List ℕ) × (new.world ≡ Some (prints ToOut printed w1))
    printed_at w1 is = let front = told.front w1 is in (take front.0 line, front.2)

    printed_order : (w w' : World) → old.world ≡ Some w → new.world ≡ Some w' → MakesDisk out w w' → IsWrittenInOrder out w'
    printed_order w w' is is' made =
        let script = have.are w is in
        let back = files.told w script.0 (have.world ∙ is) script.1 in
        let now = printed_at back.0 back.1 in
        let left = files.order w back.0 (have.world ∙ is) back.1 back.5.0.made in
        subst (IsWrittenInOrder out) (world_is (prints ToOut now.0 back.0) w' (sym now.1 ∙ is')) (record {
          at = left.at;
          log = left.log;
          there = left.there;
          steps = left.steps;
          order = left.order;
        })

    printed_crash : (ended : Result Unit ScriptStoreError)
        → ((Whole : List ℕ → Type 0) (log : List Step) → ScriptCrash {T = Counts} Whole log (Ok counts) → ScriptCrash Whole log ended)
        → (w w' : World) → old.world ≡ Some w → new.world ≡ Some w' → MakesDisk out w w'
        → LeavesScript (IsWholeScript schema input p w) out w' ended
    printed_crash ended later w w' is is' made =
        let script = have.are w is in
        let back = files.told w script.0 (have.world ∙ is) script.1 in
        let now = printed_at back.0 back.1 in
        let left = files.crash script.0 script.1 w back.0 (have.world ∙ is) back.1 back.5.0.made in
        let turn = whole_script w script.0 script.2 in
        subst (λ (v : World). LeavesScript (IsWholeScript schema input p w) out v ended)
        (world_is (prints ToOut now.0 back.0) w' (sym now.1 ∙ is')) (record {
          at = left.at;
          log = left.log;
          there = left.there;
          steps = left.steps;
          leaves = later (IsWholeScript schema input p w) left.log (
            or_as (IsScriptFile p fields script.0) (IsWholeScript schema input p w) left.log turn left.leaves.0,
            λ bytes may. turn bytes (left.leaves.1 bytes may),
          );
        })

    back_then : LeavesOut 0 old new
    back_then = record {
      err_faults = told.other ∙ (files.err_faults ∙ have.err_faults);
      opened = omega (arith, told.opened, files.opened, have.opened);
    }

  pub stores_told : (filed new : HostState) (counts : Counts) → FilesText out p fields text mid filed (Ok counts)
      → PrintsAll ToOut (counts_line counts.clusters counts.entries) filed new (Ok tt) → StoresScript out schema input p old new (Ok tt)
  stores_told filed new counts files told =
      let line = counts_line counts.clusters counts.entries in
      record {
        told = λ w is.
            let script = have.are w is in
            let back = files.told w script.0 (have.world ∙ is) script.1 in (
              prints ToOut line back.0,
              told.ok back.0 back.1,
              back.2,
              back.4,
              (line, stored filed new counts files (Ok tt) told w back.0 script.0 line [] script.2 back.3 back.5 (sym (append-nil line))),
            );
        order = printed_order filed new counts files (Ok tt) told;
        crash = printed_crash filed new counts files (Ok tt) told (Ok tt) (λ Whole log leaves. leaves);
        asked = told.asked ∙ asked_every filed.asked files.asked;
        schema_first = schema_found new;
        cause = record {
          later = omega (arith, have.later, files.cause.later, told.cause.later);
          failed = λ is. absurd (cc is);
        };
        back = back_then filed new counts files (Ok tt) told;
      }

  pub stores_untold : (filed new : HostState) (counts : Counts) (e : Failed) → FilesText out p fields text mid filed (Ok counts)
      → PrintsAll ToOut (counts_line counts.clusters counts.entries) filed new (Err e)
      → StoresScript out schema input p old new (Err Outside)
  stores_untold filed new counts e files told =
      let line = counts_line counts.clusters counts.entries in
      record {
        told = λ w is.
            let script = have.are w is in
            let back = files.told w script.0 (have.world ∙ is) script.1 in
            let front = told.front back.0 back.1 in
            let printed = take front.0 line in (
              prints ToOut printed back.0,
              front.2,
              back.2,
              back.4,
              inr (inr (
                printed,
                drop front.0 line,
                stored filed new counts files (Err e) told w back.0 script.0 printed (drop front.0 line) script.2 back.3 back.5
                    (sym (take-append-drop front.0 line)),
                left_after_print filed new counts files (Err e) told back.0 printed back.5.1,
              )),
            );
        order = printed_order filed new counts files (Err e) told;
        crash = printed_crash filed new counts files (Err e) told (Err Outside) (λ Whole log leaves. leaves.0);
        asked = (3, told.asked ∙ asked_every filed.asked files.asked);
        schema_first = schema_found new;
        cause = record {
          later = omega (arith, have.later, files.cause.later, told.cause.later);
          failed = λ is. let rose = told.cause.failed in omega (arith, have.later, files.cause.later, rose);
        };
        back = back_then filed new counts files (Err e) told;
      }
