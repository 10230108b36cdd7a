-- What workers have done stays true as they take jobs.
use Rattle.std.proofs.Common.{◌≡◌, ℕ, ◌+◌, ◌<◌, ◌≤◌, List, [], ◌∷◌, ◌++◌, length, sym, refl, ap, ◌∙◌, subst, arith, Option}
use Rattle.std.proofs.Common.{vec_capacity}
use Rattle.std.specs.List.{AllByRecursion}
use Rattle.std.specs.Mem.{manually_drop_value}
use Rattle.std.specs.declared.mem.ManuallyDrop.{ManuallyDrop}
use Rattle.crossbeam_queue.specs.Passes.{Pass, view, IsPassOf, IsSamePass}
use Rattle.crossbeam_queue.specs.declared.array_queue.Doing.{Doing}
use Rattle.crossbeam_queue.specs.declared.array_queue.Slotted.{Slotted}
use Rattle.nt_pool.specs.declared.rule.Hand.{Hand}
use Rattle.nt_pool.specs.declared.work.Answer.{Answer}
use Rattle.nt_pool.specs.declared.work.Worker.{Worker}
use Rattle.nt_pool.specs.Rule.{hand, TakesOne, LearnsAll}
use Rattle.nt_pool.specs.Done.{Pairs, Works, IsSameWorker, TookAll}
use Rattle.nt_pool.specs.Rule.{IsOf, weigh, all_parts}
use Rattle.nt_pool.specs.Pool.{IsWorker, AreAll}
use Rattle.nt_pool.proofs.Lists.{All-each, All-here}
use Rattle.std.specs.Prelude.{slice_index_or}

module _ {J D : Type 0} (number : J → ℕ) (does : J → D → Type 0) where
  pub pairs-length : (js : List J) (answers : List (Answer D)) → Pairs number does js answers → length answers ≡ length js
  pairs-length [] [] p = refl
  pairs-length [] (a ∷ rest) p = absurd p
  pairs-length (j ∷ js) [] p = absurd p
  pairs-length (j ∷ js) (a ∷ rest) p = let e = pairs-length js rest p.2 in omega (arith, e)

  pub pairs-append : (js : List J) (answers : List (Answer D)) (ks : List J) (others : List (Answer D)) → Pairs number does js answers
      → Pairs number does ks others
      → Pairs number does (js ++ ks) (answers ++ others)
  pairs-append [] [] ks others p q = q
  pairs-append [] (a ∷ rest) ks others p q = absurd p
  pairs-append (j ∷ js) [] ks others p q = absurd p
  pairs-append (j ∷ js) (a ∷ rest) ks others p q = (p.0, p.1, pairs-append js rest ks others p.2 q)

  module _ {Q A : Type 0} (ready : J → Type 0) (line : Slotted (Option (ManuallyDrop J)) (Doing (ManuallyDrop J) (Hand J)) Q A)
      (w : Worker (Pass (ManuallyDrop J) (Hand J)) D) (x : ManuallyDrop J) (p : Pass (ManuallyDrop J) (Hand J)) where
    pub has-room : Works number does line w → TakesOne ready (view w.pass) x (view p) → length w.answers.items < vec_capacity w.answers
    has-room works takes =
        let e = pairs-length (view w.pass).taken w.answers.items works.pairs in
        let few : length ((view w.pass).taken ++ manually_drop_value x ∷ []) ≤ length (view w.pass).put =
        subst (λ (v : Hand J). length v.taken ≤ length (view w.pass).put) takes.now takes.few in
        let l = longer (view w.pass).taken (manually_drop_value x) in
        let r = works.room in
        omega (arith, e, few, l, r)
      where
        longer : (js : List J) (j : J) → length (js ++ j ∷ []) ≡ length js + 1
        longer [] j = refl
        longer (k ∷ js) j = let e = longer js j in omega (arith, e)

    pub works-on : (w' : Worker (Pass (ManuallyDrop J) (Hand J)) D) (a : Answer D) → Works number does line w → IsSamePass w.pass p
        → TakesOne ready (view w.pass) x (view p)
        → w'.pass ≡ p → w'.answers.items ≡ w.answers.items ++ a ∷ [] → vec_capacity w'.answers ≡ vec_capacity w.answers
        → a.number ≡ number (manually_drop_value x) → does (manually_drop_value x) a.done → Works number does line w'
    works-on w' a works same takes is items capacity numbered did =
        let now : view w'.pass ≡ hand (view w.pass).parts (view w.pass).put ((view w.pass).taken ++ manually_drop_value x ∷ []) = ap
        (λ (q : Pass (ManuallyDrop J) (Hand J)). view q) is ∙ takes.now in
        record {
          of = subst (λ (q : Pass (ManuallyDrop J) (Hand J)). IsPassOf line q) (sym is) (same.0 ∙ works.of.0, same.2 ∙ works.of.1);
          part = let e = ap (λ (v : Hand J). v.parts) now in let some = works.part in omega (arith, e, some);
          pairs = subst (λ (v : Hand J). Pairs number does v.taken w'.answers.items) (sym now)
              (subst (λ l. Pairs number does ((view w.pass).taken ++ manually_drop_value x ∷ []) l) (sym items)
              (pairs-append (view w.pass).taken w.answers.items (manually_drop_value x ∷ []) (a ∷ []) works.pairs (numbered, did, tt)));
          room = let e = ap (λ (v : Hand J). length v.put) now in let r = works.room in omega (arith, e, r, capacity);
        }

module _ {J D Q A : Type 0} (number : J → ℕ) (does : J → D → Type 0)
    (line : Slotted (Option (ManuallyDrop J)) (Doing (ManuallyDrop J) (Hand J)) Q A) where
  -- two passes that are one have taken no more together than was put
  pub joined-few : (v w u : Hand J) (items : List (ManuallyDrop J)) → u ≡ hand (v.parts + w.parts) v.put (v.taken ++ w.taken)
      → 0 < v.parts → LearnsAll u items
      → length v.taken + length w.taken ≤ length v.put
  joined-few v w u items is part learned =
      let p = ap (λ (h : Hand J). h.parts) is in
      let few = learned.0 (omega (arith, p, part)) in
      let t = ap (λ (h : Hand J). length h.taken) is in
      let q = ap (λ (h : Hand J). length h.put) is in
      let l = both v.taken w.taken in
      omega (arith, few, t, q, l)
    where
      both : (xs ys : List J) → length (xs ++ ys) ≡ length xs + length ys
      both [] ys = omega arith
      both (x ∷ xs) ys = let e = both xs ys in omega (arith, e)

  pub joins-work : (w other w' : Worker (Pass (ManuallyDrop J) (Hand J)) D) (p q : Pass (ManuallyDrop J) (Hand J))
      → Works number does line w → Works number does line other
      → IsSamePass w.pass p → view p ≡ hand ((view w.pass).parts + (view other.pass).parts) (view w.pass).put
      ((view w.pass).taken ++ (view other.pass).taken)
      → IsSamePass p q → view q ≡ view p → w'.pass ≡ q → w'.answers.items ≡ w.answers.items ++ other.answers.items
      → vec_capacity w.answers ≤ vec_capacity w'.answers
      → Works number does line w'
  joins-work w other w' p q works others same both again still is items capacity =
      let now : view w'.pass ≡ hand ((view w.pass).parts + (view other.pass).parts) (view w.pass).put
      ((view w.pass).taken ++ (view other.pass).taken)
      = ap (λ (q : Pass (ManuallyDrop J) (Hand J)). view q) is ∙ (still ∙ both) in
      record {
        of = subst (λ (q : Pass (ManuallyDrop J) (Hand J)). IsPassOf line q) (sym is) (
          again.0 ∙ (same.0 ∙ works.of.0),
          again.2
              ∙ (same.2 ∙ works.of.1),
        );
        part = let e = ap (λ (v : Hand J). v.parts) now in let r = works.part in omega (arith, e, r);
        pairs = subst (λ (v : Hand J). Pairs number does v.taken w'.answers.items) (sym now)
            (subst (λ l. Pairs number does ((view w.pass).taken ++ (view other.pass).taken) l) (sym items)
            (pairs-append number does (view w.pass).taken w.answers.items
            (view other.pass).taken other.answers.items works.pairs others.pairs));
        room = let e = ap (λ (v : Hand J). length v.put) now in let r = works.room in omega (arith, e, r, capacity);
      }

  -- workers that ran are workers with the same jobs
  pub ran-workers : (jobs : List J) (olds news : List (Worker (Pass (ManuallyDrop J) (Hand J)) D)) → length news ≡ length olds
      → AllByRecursion (IsWorker does number line jobs) olds
      → ((i : ℕ) (d : Worker (Pass (ManuallyDrop J) (Hand J)) D) → i < length olds
      → Works number does line (slice_index_or news i d) × IsSameWorker (slice_index_or olds i d) (slice_index_or news i d))
      → AllByRecursion (IsWorker does number line jobs) news
  ran-workers jobs olds news same all ran = All-each (IsWorker does number line jobs) news (λ i d h.
      let inside : i < length olds = omega (arith, h, same) in
      let was : IsWorker does number line jobs (slice_index_or olds i d) = All-here (IsWorker does number line jobs) olds all i d inside in
      let now = ran i d inside in
      record { works = now.0; one = now.1.0 ∙ was.one; put = now.1.1 ∙ was.put })

  -- once all parts are in one hand, its answers are those of all jobs
  pub has-all : (jobs : List J) (w : Worker (Pass (ManuallyDrop J) (Hand J)) D) → Works number does line w → TookAll (view w.pass)
      → (view w.pass).parts ≡ all_parts → (view w.pass).put ≡ jobs
      → AreAll does number jobs w.answers.items
  has-all jobs w works took parts put =
      let all = took parts in
      record {
        taken = (view w.pass).taken;
        pairs = works.pairs;
        each = λ f. all.0 f ∙ ap (weigh f) put;
        of = subst (λ l. AllByRecursion (IsOf l) (view w.pass).taken) put all.1;
      }
