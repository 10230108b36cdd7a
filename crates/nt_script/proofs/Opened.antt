-- The schema text and the script of a host, opened or not.
use Rattle.std.proofs.Common.{◌≡◌, ◌∙◌, inl, ap, refl, ℕ, ◌+◌, ◌≤◌, List, [], ◌∷◌, ◌++◌, Option, Some}
use Rattle.std.proofs.Common.{None, Ok, Err, append_assoc, arith}
use Rattle.std.specs.Prelude.{IsErrOf, IsSome}
use Rattle.nt_types.specs.ShapeData.{MemberData}
use Rattle.nt_types.specs.Views.{members_view}
use Rattle.nt_types.specs.declared.shape.Members.{Members}
use Rattle.nt_outside.specs.declared.fault.Refused.{Refused}
use Rattle.nt_outside.specs.declared.fault.Refused.TheVariants as refused
use Rattle.nt_outside.specs.Source.{SourceState}
use Rattle.nt_outside.specs.World.{World, Asked, Text, HostState, Opens, IsOpenText, file}
use Rattle.nt_book.specs.declared.params.Params.{Params}
use Rattle.nt_store.specs.declared.error.StoreError.{StoreError}
use Rattle.nt_store.specs.declared.error.StoreError.TheVariants as store
use Rattle.nt_store.specs.Schemas.{TellsSchema}
use Rattle.nt_store.specs.Worlds.{AsksOnly, HasStoreCause, LeavesOut}
use Rattle.nt_store.proofs.Asking.{schema_asked, texts_asked, is_schema}
use Rattle.nt_store.proofs.Refused.{nothing_made}
use Rattle.nt_script.specs.declared.store_error.ScriptStoreError.TheVariants.{Outside}
use Rattle.nt_script.specs.StoreErrors.{script_error_of_refusal, script_error_of_store}
use Rattle.nt_script.specs.Storing.{AreScriptTexts, IsWholeScript, ScriptTold}
use Rattle.nt_script.specs.Storing.{StoresScript}
use Rattle.nt_script.proofs.Hosted.{asks_refused, refusal_fails, none_left}

-- ---- a schema text that isn't read

unread_told : (out schema input : List ℕ) (p : Params) (w : World) (e : StoreError) → TellsSchema (file w schema) (Err e)
    → ScriptTold out schema input p w w (Err (script_error_of_store e))
unread_told out schema input p w store.Outside told = inl (inl (refl, refl), refl)
unread_told out schema input p w store.Memory told = (inl (refl, refl), refl)
unread_told out schema input p w (store.Schema line kind) told = (told, (refl, refl), refl)
unread_told out schema input p w (store.Line input' line kind) told = absurd told
unread_told out schema input p w (store.Limit reached most) told = absurd told

unread_fails : {T S : Type 0} (e : StoreError) → IsErrOf {T = S} (Err (script_error_of_store e)) Outside
    → IsErrOf {T = T} (Err e) store.Outside
unread_fails store.Outside is = refl
unread_fails store.Memory is = absurd (cc is)
unread_fails (store.Schema line kind) is = absurd (cc is)
unread_fails (store.Line input line kind) is = absurd (cc is)
unread_fails (store.Limit reached most) is = absurd (cc is)

pub stores_unread : (out schema input : List ℕ) (p : Params) (old new : HostState) (e : StoreError)
    → AsksOnly {T = Members} (Text schema ∷ []) old new (Err e)
    → ((w : World) → old.world ≡ Some w → TellsSchema (file w schema) (Err e)) → HasStoreCause {T = Members} old.faults new.faults (Err e)
    → LeavesOut 0 old new → StoresScript out schema input p old new (Err (script_error_of_store e))
stores_unread out schema input p old new e asks told cause back = record {
  told = λ w is. (w, asks.world ∙ is, refl, λ other differs. refl, unread_told out schema input p w e (told w is));
  order = nothing_made out old.world new.world asks.world;
  crash = none_left (IsWholeScript schema input p) out old.world new.world (Err (script_error_of_store e)) asks.world;
  asked = schema_asked out schema (input ∷ []) old.asked new.asked asks.asked;
  schema_first = λ w is bad. asks.asked;
  cause = record { later = cause.later; failed = λ is. cause.failed (unread_fails {T = Members} e is) };
  back = back;
}

-- ---- a script that isn't opened

unopened_told : (out schema input : List ℕ) (p : Params) (w : World) (r : Refused)
    → ScriptTold out schema input p w w (Err (script_error_of_refusal r))
unopened_told out schema input p w refused.Failed = inl (inl (refl, refl), refl)
unopened_told out schema input p w refused.Memory = (inl (refl, refl), refl)

pub stores_unopened : {T : Type 0} (out schema input : List ℕ) (p : Params) (old mid new : HostState) (f : Members) (r : Refused)
    → AsksOnly {E = StoreError} (Text schema ∷ []) old mid (Ok f) → ((w : World) → old.world ≡ Some w → TellsSchema (file w schema) (Ok f))
    → HasStoreCause {T = Members} old.faults mid.faults (Ok f) → LeavesOut 0 old mid → Opens {T = T} (Text input) mid new (Err r)
    → StoresScript out schema input p old new (Err (script_error_of_refusal r))
stores_unopened {T} out schema input p old mid new f r asks told cause back opens =
    let stays = opens.world ∙ asks.world in
    record {
      told = λ w is. (w, stays ∙ is, refl, λ other differs. refl, unopened_told out schema input p w r);
      order = nothing_made out old.world new.world stays;
      crash = none_left (IsWholeScript schema input p) out old.world new.world (Err (script_error_of_refusal r)) stays;
      asked =
          texts_asked out schema (input ∷ []) old.asked mid.asked new.asked asks.asked
          (asks_refused r mid.asked new.asked (Text input) opens.asks.failed opens.asks.memory);
      schema_first = λ w is bad. absurd (bad (is_schema (file w schema) (members_view f) (told w is)));
      cause = record {
        later = omega (arith, cause.later, opens.asks.cause.later);
        failed = λ is.
            let rose = opens.asks.cause.failed (refusal_fails {T = T} r is) in
            omega (arith, cause.later, rose);
      };
      back = record {
        err_faults = opens.asks.err_faults ∙ back.err_faults;
        opened = omega (arith, opens.asks.refused, back.opened);
      };
    }

-- ---- both are open

-- the schema text was read, and the script opened
pub record HasOpened (schema input : List ℕ) (fields : List MemberData) (old new : HostState) (text : SourceState) : Type 0 where
  pub world : new.world ≡ old.world
  pub asked : new.asked ≡ old.asked ++ Text schema ∷ Text input ∷ []
  pub later : old.faults ≤ new.faults
  pub err_faults : new.err_faults ≡ old.err_faults
  pub opened : new.opened ≡ old.opened + 1
  pub are : (w : World) → old.world ≡ Some w → (bytes : List ℕ) × (text.left ≡ Some bytes) × AreScriptTexts w schema input fields bytes

there_is : (found : Option (List ℕ)) → IsSome found → (text : List ℕ) × (found ≡ Some text)
there_is None some = absurd (cc some)
there_is (Some text) some = (text, refl)

pub opened : {T : Type 0} (schema input : List ℕ) (old mid new : HostState) (f : Members) (value : T) (text : SourceState)
    → AsksOnly {E = StoreError} (Text schema ∷ []) old mid (Ok f) → ((w : World) → old.world ≡ Some w → TellsSchema (file w schema) (Ok f))
    → HasStoreCause {T = Members} old.faults mid.faults (Ok f) → LeavesOut 0 old mid → Opens (Text input) mid new (Ok value)
    → IsOpenText mid.world input text → HasOpened schema input (members_view f) old new text
opened schema input old mid new f value text asks told cause back opens at = record {
  world = opens.world ∙ asks.world;
  asked = opens.asks.ok
      ∙ (ap (λ (l : List Asked). l ++ Text input ∷ []) asks.asked ∙ append_assoc old.asked (Text schema ∷ []) (Text input ∷ []));
  later = omega (arith, cause.later, opens.asks.cause.later);
  err_faults = opens.asks.err_faults ∙ back.err_faults;
  opened = omega (arith, opens.asks.opened, back.opened);
  are = λ w is.
      let left = at.left w (asks.world ∙ is) in
      let bytes = there_is (file w input) left.0 in
      (bytes.0, left.1 ∙ bytes.1, record { schema_is = told w is; script_is = bytes.1 });
}
