use Rattle.std.proofs.Common.{◌≡◌, ◌∙◌, ◌++◌, ◌∷◌, [], ◌+◌, ◌-◌, suc, List, ℕ, length, ap, sym, subst, arith, refl, append-nil}
use Rattle.nt_book.specs.declared.meta.PageMeta.{PageMeta}
use Rattle.nt_view.specs.declared.page_place.PagePlace.{PagePlace}
use Rattle.nt_copied.specs.Stored.{StoredPage, stored_page_metas, stored_metas, AreSoundColumns}
use Rattle.nt_copying.specs.Copied.{copied_pages, copied_columns, all_loaded, loaded_part, HasItsSum, HaveTheirSums}
use Rattle.nt_copying.proofs.Runs.{all-part, stands-first, stands-next, column-is, columns-next, ColumnsGoOn, columns-from, columns-end}
use Rattle.nt_copying.proofs.Runs.{columns-more, lists-more}
use Rattle.nt_copying.proofs.image.put_columns.Goals as goal

pub loop-id-init : goal.loop-id-init
loop-id-init c =
    let l = c.args.loaded.now in
    let n = c.args.columns in
    let none : n - 0 ≡ n = omega arith in
    let start = c.args.image.now.items in
    let all = copied_columns l 0 n in
    let sums = HaveTheirSums (all_loaded l) in
    let zero : length start - 42 ≡ 0 = omega (arith, c.requires.room) in
    record {
      stands = stands-first l.pages;
      image = subst (λ (k : ℕ). ColumnsGoOn sums all (copied_columns l 0 k) start start) (sym none) (columns-from sums all start);
      metas = ap (λ (ls : List (List PageMeta)). ls ++ stored_metas (length start - 42) (copied_columns l 0 (n - 0)))
          c.in_ok-lists.ensures.items
          ∙ ap (λ (k : ℕ). stored_metas k (copied_columns l 0 (n - 0))) zero ∙ ap (λ (k : ℕ). stored_metas 0 (copied_columns l 0 k)) none;
      sound = λ sound. subst (λ (k : ℕ). AreSoundColumns (copied_columns l 0 k)) none sound;
      room = omega (arith, c.requires.room);
    }

pub loop-id-preserved : goal.loop-id-preserved
loop-id-preserved c =
    let l = c.args.loaded.now in
    let n = c.args.columns in
    let id = c.loop-id.id in
    let at = c.loop-id.at in
    let v = c.loop-id.invariant in
    let start = c.args.image.now.items in
    let now : List ℕ = c.loop-id.image.items in
    let new : List ℕ = c.put_column.new.image.items in
    let end = c.column_end-end.result in
    let part = c.column_end-end.ensures in
    let order = c.requires.copyable.loadable.order in
    let all = copied_columns l 0 n in
    let left = copied_columns l id (n - id) in
    let rest = copied_columns l (id + 1) (n - (id + 1)) in
    let own : List StoredPage = copied_pages (loaded_part l at end) in
    let sums = HaveTheirSums (all_loaded l) in
    let count : n - id ≡ suc (n - (id + 1)) = omega (arith, c.loop-id-test.true) in
    let next : left ≡ own ∷ rest =
    columns-next l id (n - id) (n - (id + 1)) count
    ∙ ap (λ (es : List (PagePlace × List ℕ)). copied_pages es ∷ rest)
    (column-is l.pages id at end order v.stands part l.stored c.requires.copyable.stored) in
    let appends = c.in_ok-metas.ensures.bytes in
    let pushed : c.push.new.self.items ≡ c.loop-id.lists.items ++ stored_page_metas (length now - 42) own ∷ [] =
    c.in_ok-push.ensures.items
    ∙ ap (λ (m : List PageMeta). c.loop-id.lists.items ++ m ∷ []) (c.from_vec.ensures ∙ c.in_ok-metas.ensures.metas) in
    record {
      stands = stands-next l.pages id at end order v.stands part;
      image = columns-more sums (HaveTheirSums (loaded_part l at end)) all left rest own start now new next
          (λ s. all-part HasItsSum (all_loaded l) at end s) v.image appends;
      metas = lists-more left rest own (length now - 42) (length new - 42) c.loop-id.lists.items c.push.new.self.items (stored_metas 0 all)
          (stored_page_metas (length now - 42) own) next v.metas refl (omega (arith, appends.len, v.room)) pushed;
      sound = λ sound. v.sound (subst AreSoundColumns (sym next) (c.in_ok-metas.ensures.sound, sound));
      room = omega (arith, appends.len, v.room);
    }

pub returns-clause-bytes : goal.returns-clause-bytes
returns-clause-bytes c =
    let l = c.args.loaded.now in
    let none : c.args.columns - c.loop-id.id ≡ 0 = omega (arith, c.loop-id-test.false) in
    columns-end (HaveTheirSums (all_loaded l)) (copied_columns l 0 c.args.columns)
    (copied_columns l c.loop-id.id (c.args.columns - c.loop-id.id)) c.args.image.now.items c.loop-id.image.items
    (ap (λ (n : ℕ). copied_columns l c.loop-id.id n) none) c.loop-id.invariant.image

pub returns-clause-metas : goal.returns-clause-metas
returns-clause-metas c =
    let l = c.args.loaded.now in
    let none : c.args.columns - c.loop-id.id ≡ 0 = omega (arith, c.loop-id-test.false) in
    sym (append-nil c.loop-id.lists.items)
    ∙ ap (λ (n : ℕ). c.loop-id.lists.items ++ stored_metas (length c.loop-id.image.items - 42) (copied_columns l c.loop-id.id n)) (sym none)
    ∙ c.loop-id.invariant.metas

pub returns-clause-sound : goal.returns-clause-sound
returns-clause-sound c =
    let l = c.args.loaded.now in
    let none : c.args.columns - c.loop-id.id ≡ 0 = omega (arith, c.loop-id-test.false) in
    c.loop-id.invariant.sound (subst (λ (n : ℕ). AreSoundColumns (copied_columns l c.loop-id.id n)) (sym none) tt)
