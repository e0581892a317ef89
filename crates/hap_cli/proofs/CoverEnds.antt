-- How a run of `covers` ends, from what its listing is made from and from how that ends.
use Rattle.std.proofs.Common.{◌≡◌, ◌≢◌, ℕ, ◌+◌, ◌-◌, ◌≤◌, Bool, true, false, List, [], ◌∷◌, suc, map, filter, length, None, Some, Result, Ok, Err, refl, sym, ap, ◌∙◌, subst, inl, inr, arith}
use Rattle.std.specs.Prelude.{not, ◌==◌, ◌&&◌, ◌⊎◌, nat_le, if◌then◌else◌, option_map, IfOk}
use Rattle.std.specs.declared.option.Option.{Option}
use Rattle.std.specs.List.{range_with_len}
use Rattle.std.proofs.lemmas.Simd.{map-map}
use Rattle.std.proofs.lemmas.Bool.{eqb-true, leb-true, le-leb, and_parts, and_from, or_cases, or_right, false_from_ne_true}
use Rattle.std.specs.Io.KnownBytes.{Keeps}
use Rattle.face_poset.specs.Poset.{Layers}
use Rattle.edge_words.specs.Words.{Presented, relations_of}
use Rattle.live_laws.specs.Live.{Relations, Position, is_live}
use Rattle.live_laws.proofs.CallerLemmas.{from-range}
use Rattle.part_groups.specs.Groups.{components_from, presented_in, presented_from, long_from}
use Rattle.cover_listing.specs.PartCovers.{relations_in, relations_from}
use Rattle.cover_listing.specs.Listings.{CanBegin, Planned, listing, spot_in}
use Rattle.hap_words.specs.Asked.{CoversAsked, SearchSpot, covers}
use Rattle.hap_ends.specs.declared.outcome.Outcome.{Outcome}
use Rattle.hap_ends.specs.declared.outcome.Outcome.TheVariants.{Done, Spent, Usage, Refused, ReadFault, WriteFault, Memory}
use Rattle.hap_ends.specs.declared.refusal.Refusal.{Refusal}
use Rattle.hap_ends.specs.declared.refusal.Refusal.TheVariants as refused
use Rattle.hap_ends.specs.Outcomes.{Fails, word_outcome, search_outcome}
use Rattle.face_poset.specs.declared.cells.Cell.{Cell}
use Rattle.hap_inputs.specs.Spaces.{fault_in, regular_in, unless_long, only_regular, only_worded_from, only_begun, begun_in, position_in, is_begin}
use Rattle.hap_cli.specs.declared.covers.CoverPlan.{CoverPlan}
use Rattle.hap_outside.specs.declared.source.Failed.{Failed}
use Rattle.hap_outside.specs.Causes.{Rose, HasCause}
use Rattle.hap_outside.specs.Writes.{Writes}
use Rattle.cover_search.specs.declared.fault.SearchFault.{SearchFault}
use Rattle.cover_search.specs.declared.fault.SearchFault.TheVariants as search
use Rattle.cover_listing.specs.declared.listing.Ending.{Ending}
use Rattle.cover_listing.specs.declared.listing.Ending.TheVariants as ending
use Rattle.edge_words.specs.declared.fault.WordFault.{WordFault}
use Rattle.edge_words.specs.declared.fault.WordFault.TheVariants as in_words
use Rattle.edge_words.specs.Limits as limits
use Rattle.number_lists.specs.Words.{upto}
use Rattle.face_poset.specs.Poset.{count}
use Rattle.regular_check.specs.Components.{component_count, is_least}
use Rattle.std.proofs.lemmas.List.FromFn.{length-map-range_with_len, length-range_with_len}
use Rattle.std.proofs.lemmas.List.Filters.{length-filter_both}
use Rattle.hap_cli.specs.CoverTexts.{has_several, covers_text, listing_text, member_in, search_spot, Plans, Lists, ended_outcome}
use Rattle.hap_cli.specs.Refusals.{refusal}
use Rattle.hap_cli.specs.Ends.{ending_in, EndsOn}
use Rattle.hap_cli.proofs.Stages.{fails_give}
use Rattle.hap_cli.proofs.Ends.{within, refused_end}

not_long_from : (o : Option Cell) (s space : Layers) → unless_long s o ≡ Ok space → unless_long s None ≡ Ok space
not_long_from None s space h = h
not_long_from (Some cell) s space h = cc

-- a space that comes past the stage of words has come past the stage before it
worded_from_is : (first : ℕ) (stage : Result Layers Refusal) (space : Layers) → only_worded_from first stage ≡ Ok space → stage ≡ Ok space
worded_from_is first (Ok s) space e = not_long_from (long_from s first) s space e
worded_from_is first (Err refusal) space e = cc

-- what does not come past a stage does not come past the next
fails_past : (n : ℕ) (spot : SearchSpot) (stage : Result Layers Refusal) (outcome : Outcome) → Fails stage outcome → Fails (only_begun n spot stage) outcome
fails_past n spot stage (Refused refusal) h = ap (only_begun n spot) h
fails_past n spot stage Memory h = tt
fails_past n spot stage Done h = h
fails_past n spot stage (Spent s) h = h
fails_past n spot stage Usage h = h
fails_past n spot stage ReadFault h = h
fails_past n spot stage WriteFault h = h

-- ---- where a listing may begin

empty : (cells : List ℕ) → length cells ≡ 0 → cells ≡ []
empty [] e = refl
empty (c ∷ cells) e = absurd (omega arith)

start : (m : ℕ) (cells : List ℕ) → m ≡ 0 → length cells ≡ 0 → ◌≡◌ {A = Position} (m, cells) (0, [])
start m cells e h = ap (λ (k : ℕ). let q : Position = (k, cells) in q) e ∙ ap (λ (cs : List ℕ). let q : Position = (0, cs) in q) (empty cells h)

-- it may where the test holds
begin_is : (Ps : List Relations) (n : ℕ) (t : Position) → is_begin Ps n t ≡ true → CanBegin Ps n t
begin_is [] n (m, cells) e = at (or_cases ((m == 0) && (length cells == 0)) false e)
  where
    at : (((m == 0) && (length cells == 0)) ≡ true) ⊎ (false ≡ true) → ◌≡◌ {A = Position} (m, cells) (0, [])
    at (inl h) = let p = and_parts (m == 0) (length cells == 0) h in start m cells (eqb-true m 0 p.0) (eqb-true (length cells) 0 p.1)
    at (inr h) = absurd cc
begin_is (P ∷ Ps) n (m, cells) e = at (or_cases ((m == 0) && (length cells == 0)) (nat_le 1 m && (nat_le m n && is_live P m cells)) e)
  where
    at : (((m == 0) && (length cells == 0)) ≡ true) ⊎ ((nat_le 1 m && (nat_le m n && is_live P m cells)) ≡ true) → CanBegin (P ∷ Ps) n (m, cells)
    at (inl h) = let p = and_parts (m == 0) (length cells == 0) h in inl (start m cells (eqb-true m 0 p.0) (eqb-true (length cells) 0 p.1))
    at (inr h) =
        let p = and_parts (nat_le 1 m) (nat_le m n && is_live P m cells) h in
        let q = and_parts (nat_le m n) (is_live P m cells) p.1 in
        inr ((leb-true 1 m p.0, leb-true m n q.0), q.1)

-- and the test holds where it may
pub begin_true : (Ps : List Relations) (n : ℕ) (t : Position) → CanBegin Ps n t → is_begin Ps n t ≡ true
begin_true [] n t c = subst (λ (q : Position). is_begin [] n q ≡ true) (sym c) refl
begin_true (P ∷ Ps) n t (inl e) = subst (λ (q : Position). is_begin (P ∷ Ps) n q ≡ true) (sym e) refl
begin_true (P ∷ Ps) n t (inr c) =
    or_right ((t.0 == 0) && (length t.1 == 0)) (nat_le 1 t.0 && (nat_le t.0 n && is_live P t.0 t.1))
    (and_from (nat_le 1 t.0) (nat_le t.0 n && is_live P t.0 t.1) (le-leb 1 t.0 c.0.0) (and_from (nat_le t.0 n) (is_live P t.0 t.1) (le-leb t.0 n c.0.1) c.1))

pub begin_false : (Ps : List Relations) (n : ℕ) (t : Position) → (CanBegin Ps n t → ⊥) → is_begin Ps n t ≡ false
begin_false Ps n t c = false_from_ne_true (is_begin Ps n t) (λ e. c (begin_is Ps n t e))

-- ---- the ends

-- nothing is planned
pub unplanned_end : (o : CoversAsked) (bytes : List ℕ) (write : Type 0) (old : Option (List ℕ)) (outcome : Outcome)
    → length bytes ≤ 16777216 → Fails (only_worded_from o.from.0 (regular_in o.source.kind bytes)) outcome → Keeps old old
    → EndsOn (covers o) bytes write old old outcome
unplanned_end o bytes write old outcome short h k =
    refused_end (covers o) bytes write old outcome short
    (fails_give (covers o) bytes (begun_in o.source.kind bytes o.sheets o.from) outcome refl
    (fails_past o.sheets o.from (only_worded_from o.from.0 (regular_in o.source.kind bytes)) outcome h)) k

-- the relations of the presentations are those of the components
relations-are : (space : Layers) (first : ℕ) → map relations_of (presented_from space first) ≡ relations_from space first
relations-are space first =
    let least : component_count space + 1 - first ≡ suc (component_count space) - first = omega arith in
    map-map relations_of (presented_in space) (components_from space first)
    ∙ ap (map (relations_in space)) (ap (range_with_len first) least ∙ sym (from-range first (suc (component_count space) - first)))

-- what was planned is listed
pub listed_end : (o : CoversAsked) (bytes : List ℕ) (write : Type 0) (old new : Option (List ℕ)) (plan : CoverPlan) (outcome : Outcome)
    → length bytes ≤ 16777216
    → Plans (only_worded_from o.from.0 (regular_in o.source.kind bytes)) o.from.0 plan
    → Lists plan.several (map relations_of plan.presentations.items) o write old new outcome
    → EndsOn (covers o) bytes write old new outcome
listed_end o bytes write old new plan outcome short p l = at outcome here
  where
    space : Layers
    space = p.space

    read : Result Layers Refusal
    read = regular_in o.source.kind bytes

    is : read ≡ Ok space
    is = worded_from_is o.from.0 read space p.past

    here : Lists (has_several space) (relations_from space o.from.0) o write old new outcome
    here = subst (λ (b : Bool). Lists b (relations_from space o.from.0) o write old new outcome) p.several
        (subst (λ (Ps : List Relations). Lists plan.several Ps o write old new outcome) (relations-are space o.from.0)
        (subst (λ (ps : List Presented). Lists plan.several (map relations_of ps) o write old new outcome) p.presentations l))

    begins : Bool
    begins = is_begin (relations_from space o.from.0) o.sheets (position_in o.from)

    stage : begun_in o.source.kind bytes o.sheets o.from ≡ (if begins then Ok space else Err refused.Position)
    stage = ap (only_begun o.sheets o.from) p.past

    none : begins ≡ true → refusal (covers o) bytes ≡ None
    none e = within (covers o) bytes short ∙ ap fault_in (stage ∙ ap (λ b. if b then Ok space else Err refused.Position) e)

    bad : begins ≡ false → refusal (covers o) bytes ≡ Some refused.Position
    bad e = within (covers o) bytes short ∙ ap fault_in (stage ∙ ap (λ b. if b then Ok space else Err refused.Position) e)

    at : (outcome : Outcome) → Lists (has_several space) (relations_from space o.from.0) o write old new outcome → EndsOn (covers o) bytes write old new outcome
    at Done h = (ap (ending_in o) is ∙ h.spent, record { text = covers_text space o; answers = (none h.begins, (space, is, refl)); appended = h.appended })
    at (Spent spot) h = (ap (ending_in o) is ∙ h.spent, record { text = covers_text space o; answers = (none h.begins, (space, is, refl)); appended = h.appended })
    at (Refused c) h = (bad h.1 ∙ ap Some (sym h.0), h.2)
    at WriteFault h = (h.0, record { text = covers_text space o; answers = (none h.1.begins, (space, is, refl)); count = h.1.count; less = h.1.less; appended = h.1.appended })
    at Memory h = h
    at Usage h = h
    at ReadFault h = h

-- what is kept where nothing is written
pub keeps : (o : Option (List ℕ)) → Keeps o o
keeps None = tt
keeps (Some xs) = refl

-- a listing that was begun, by how it was written
pub begun_end : (several : Bool) (Ps : List Relations) (o : CoversAsked) (l : Planned) (old new : Option (List ℕ)) (before now : ℕ) (r : Result Ending Failed)
    → l ≡ record { parts = Ps; most = o.sheets; from = member_in o.from } → CanBegin Ps o.sheets (position_in o.from)
    → Writes old new (listing_text several l.parts l.most l.from o.budget) r → HasCause before now r
    → IfOk r (λ e. spot_in e ≡ (listing l.parts l.most l.from o.budget).spent)
    → Lists several Ps o (Rose before now) old new (ended_outcome r)
begun_end several Ps o l old new before now r e can w h s = at r (subst (λ (p : Planned). Writes old new (listing_text several p.parts p.most p.from o.budget) r) e w) h (subst (λ (p : Planned). IfOk r (λ x. spot_in x ≡ (listing p.parts p.most p.from o.budget).spent)) e s)
  where
    at : (r : Result Ending Failed) → Writes old new (listing_text several Ps o.sheets (member_in o.from) o.budget) r → HasCause before now r
        → IfOk r (λ x. spot_in x ≡ (listing Ps o.sheets (member_in o.from) o.budget).spent) → Lists several Ps o (Rose before now) old new (ended_outcome r)
    at (Ok ending.Done) w h s = record { begins = begin_true Ps o.sheets (position_in o.from) can; spent = ap (option_map search_spot) (sym s); appended = w.whole }
    at (Ok (ending.Spent spot)) w h s = record { begins = begin_true Ps o.sheets (position_in o.from) can; spent = ap (option_map search_spot) (sym s); appended = w.whole }
    at (Err failed) w h s = (h.failed, record { begins = begin_true Ps o.sheets (position_in o.from) can; count = w.part.0; less = w.part.1; appended = w.part.2 })

-- one that was not
pub unbegun_end : (several : Bool) (Ps : List Relations) (o : CoversAsked) (write : Type 0) (old : Option (List ℕ)) (fault : SearchFault)
    → (fault ≢ search.Memory → CanBegin Ps o.sheets (position_in o.from) → ⊥) → Keeps old old → Lists several Ps o write old old (search_outcome fault)
unbegun_end several Ps o write old search.Memory h k = k
unbegun_end several Ps o write old search.BadPosition h k = (refl, begin_false Ps o.sheets (position_in o.from) (h (λ e. cc)), k)

-- ---- what is planned

-- what does not come to the stages of a plan has none
pub fails_words : (first : ℕ) (stage : Result Layers Refusal) (outcome : Outcome) → Fails stage outcome → Fails (only_worded_from first (only_regular stage)) outcome
fails_words first stage (Refused refusal) h = ap (λ r. only_worded_from first (only_regular r)) h
fails_words first stage Memory h = tt
fails_words first stage Done h = h
fails_words first stage (Spent s) h = h
fails_words first stage Usage h = h
fails_words first stage ReadFault h = h
fails_words first stage WriteFault h = h

pub fails_rules : (first : ℕ) (stage : Result Layers Refusal) (outcome : Outcome) → Fails stage outcome → Fails (only_worded_from first stage) outcome
fails_rules first stage (Refused refusal) h = ap (only_worded_from first) h
fails_rules first stage Memory h = tt
fails_rules first stage Done h = h
fails_rules first stage (Spent s) h = h
fails_rules first stage Usage h = h
fails_rules first stage ReadFault h = h
fails_rules first stage WriteFault h = h

-- a word that is too long ends the run
pub word_from_ends : (space : Layers) (first : ℕ) (fault : WordFault) → limits.IsFault (long_from space first) fault → Fails (only_worded_from first (Ok space)) (word_outcome fault)
word_from_ends space first in_words.Memory h = tt
word_from_ends space first (in_words.TooLong cell) h = ap (unless_long space) h

-- a space has at most as many components as vertices
few-components : (space : Layers) → count space 0 ≤ 60000 → component_count space ≤ 60000
few-components space few =
    let all : component_count space + length (filter (λ x. not (is_least space x)) (upto (count space 0))) ≡ length (upto (count space 0)) =
    length-filter_both (is_least space) (λ x. not (is_least space x)) (λ x. refl) (upto (count space 0)) in
    let most : length (upto (count space 0)) ≡ count space 0 = length-range_with_len 1 (count space 0) in
    omega (arith, all, most, few)

-- and the presentations of the components from one on are few
pub few-presented : (space : Layers) (first : ℕ) (ps : List Presented) → count space 0 ≤ 60000 → first ≤ 60000 → ps ≡ presented_from space first → first + length ps ≤ 60001
few-presented space first ps few most e =
    subst (λ (xs : List Presented). first + length xs ≤ 60001) (sym e)
    (omega (arith, length-map-range_with_len (presented_in space) first (component_count space + 1 - first), few-components space few, most))
