-- What a command answers, and what it writes.
--   cells_text space            how many cells each dimension has, and their alternating sum
--   components_text space n     the same, that the space is regular, and that it has n components
--   check_text space            so of the components that it has
--   betti_text numbers          the Betti numbers of degrees 0 to 3
--   chain_numbers space         how many chains of each degree the order complex has
--   told_text size space chains numbers   of a 3-torus: its size, its cells, its chains, its Betti numbers
--   torus_text, chains_text     the first and the third of these lines
--   IsMade size modulus text    the boundary text of the 3-torus, or with a modulus what is told of it
--   told_text_of c numbers      of a cover its table, the cells of its total space, and Betti numbers
--   IsCoverText modulus c text  the boundary text of the total space of a cover, which reads back as this space and as a regular one;
--                               with a modulus what is told of the cover
--   IsAnswer asked bytes text   the text is an answer of the command on these bytes
-- and for the code, whose answers are values
--   text_of answer              the text of an answer
--   Gives asked bytes result    an answer whose text is one of the command, or the cause of a refusal, or want of memory
--   GivesIf stage space P result   a value of which P holds, where the stage lets the space through; or its refusal; or want
--                               of memory
--   GivesCover stage w result   the cover that is wanted of a space that comes past a stage, or why there is none
--   told_cover_text told        the text of what is told of a cover
--   IsSummary size modulus s    it tells of the 3-torus of the size
--   summary_text summary        the text of it
use Rattle.std.specs.Prelude.{◌≡◌, ℕ, List, ◌++◌, codes, decimal, length, ⊤}
use Rattle.std.specs.Fmt.{signed_decimal}
use Rattle.std.specs.declared.result.Result.{Result}
use Rattle.std.specs.declared.result.Result.TheVariants.{Ok, Err}
use Rattle.std.specs.declared.option.Option.{Option}
use Rattle.std.specs.declared.option.Option.TheVariants.{Some, None}
use Rattle.face_poset.specs.Poset.{Layers, count, euler_of}
use Rattle.face_poset.specs.Text.{boundary_text}
use Rattle.order_complex.specs.Chains.{chains_of}
use Rattle.tuple_spaces.specs.Torus.{torus_of}
use Rattle.regular_check.specs.Components.{component_count}
use Rattle.small_field.specs.Modulus.{field_of}
use Rattle.order_complex.specs.declared.betti.Betti.{Betti}
use Rattle.order_complex.specs.Numbers.{AreBetti}
use Rattle.part_covers.specs.declared.wanted.Wanted.{Wanted}
use Rattle.part_covers.specs.Covered.{Covering, IsNumbered}
use Rattle.hap_words.specs.declared.command.Kind.TheVariants.{Boundary}
use Rattle.hap_words.specs.Asked.{Asked, cells, check, betti, group, covers, cover, make}
use Rattle.hap_ends.specs.declared.outcome.Outcome.{Outcome}
use Rattle.hap_ends.specs.declared.outcome.Outcome.TheVariants.{Refused, Memory}
use Rattle.hap_ends.specs.Refusals.{bare}
use Rattle.hap_ends.specs.Outcomes.{Fails}
use Rattle.hap_ends.specs.declared.refusal.Refusal.{Refusal}
use Rattle.hap_inputs.specs.Spaces.{space_in, regular_in, only_cover, wanted_by}
use Rattle.hap_cli.specs.declared.answer.Answer.{Answer}
use Rattle.hap_cli.specs.declared.answer.Answer.TheVariants as answer
use Rattle.hap_cli.specs.declared.cover.ToldCover.{ToldCover}
use Rattle.hap_cli.specs.declared.make.Summary.{Summary}
use Rattle.hap_cli.specs.declared.make.ChainNumbers.{ChainNumbers}
use Rattle.hap_cli.specs.Refusals.{cause}
use Rattle.hap_cli.specs.GroupTexts.{groups_text, group_text}
use Rattle.hap_cli.specs.CoverTexts.{covers_text}
use Rattle.hap_cli.specs.OneCover.{cover_front}

abbrev pub cells_text : Layers → List ℕ
cells_text space =
    codes "cells " ++ (decimal (count space 0) ++ (codes " " ++ (decimal (count space 1) ++ (codes " "
    ++ (decimal (count space 2) ++ (codes " " ++ (decimal (count space 3)
    ++ (codes "\neuler " ++ (signed_decimal (euler_of space) ++ codes "\n")))))))))

abbrev pub components_text : Layers → ℕ → List ℕ
components_text space components = cells_text space ++ (codes "regular\ncomponents " ++ (decimal components ++ codes "\n"))

abbrev pub check_text : Layers → List ℕ
check_text space = components_text space (component_count space)

abbrev pub betti_text : Betti → List ℕ
betti_text b =
    codes "betti " ++ (decimal b.zero ++ (codes " " ++ (decimal b.one ++ (codes " " ++ (decimal b.two ++ (codes " " ++ (decimal b.three ++ codes "\n")))))))

abbrev pub torus_text : ℕ → List ℕ
torus_text size = codes "torus " ++ (decimal size ++ codes "\n")

abbrev pub chain_numbers : Layers → ChainNumbers
chain_numbers space = record {
  zero = length (chains_of space 0);
  one = length (chains_of space 1);
  two = length (chains_of space 2);
  three = length (chains_of space 3);
}

abbrev pub chains_text : ChainNumbers → List ℕ
chains_text c =
    codes "chains " ++ (decimal c.zero ++ (codes " " ++ (decimal c.one ++ (codes " " ++ (decimal c.two ++ (codes " " ++ (decimal c.three ++ codes "\n")))))))

abbrev pub told_text : (size : ℕ) → Layers → ChainNumbers → Betti → List ℕ
told_text size space chains numbers = (torus_text size ++ cells_text space) ++ (chains_text chains ++ betti_text numbers)

abbrev pub IsMade : (size : ℕ) → (modulus : Option ℕ) → List ℕ → Type 0
IsMade size None text = text ≡ boundary_text (torus_of size)
IsMade size (Some p) text =
    (numbers : Betti) × AreBetti (field_of p) (torus_of size) numbers
    × (text ≡ told_text size (torus_of size) (chain_numbers (torus_of size)) numbers)

abbrev pub told_text_of : Covering → Betti → List ℕ
told_text_of c numbers = cover_front c ++ betti_text numbers

abbrev pub IsCoverText : (modulus : Option ℕ) → Covering → List ℕ → Type 0
IsCoverText None c text = (text ≡ boundary_text c.total) × (regular_in Boundary text ≡ Ok c.total)
IsCoverText (Some p) c text = (numbers : Betti) × AreBetti (field_of p) c.total numbers × (text ≡ told_text_of c numbers)

abbrev pub IsAnswer : Asked → List ℕ → List ℕ → Type 0
IsAnswer (cells o) bytes text = (space : Layers) × (space_in o.source.kind bytes ≡ Ok space) × (text ≡ cells_text space)
IsAnswer (check o) bytes text = (space : Layers) × (regular_in o.source.kind bytes ≡ Ok space) × (text ≡ check_text space)
IsAnswer (betti o) bytes text =
    (space : Layers) × (regular_in o.source.kind bytes ≡ Ok space)
    × (numbers : Betti) × AreBetti (field_of o.modulus) space numbers × (text ≡ betti_text numbers)
IsAnswer (group o) bytes text =
    (space : Layers) × (regular_in o.source.kind bytes ≡ Ok space) × (text ≡ group_text space)
IsAnswer (covers o) bytes text =
    (space : Layers) × (regular_in o.source.kind bytes ≡ Ok space) × (text ≡ covers_text space o)
IsAnswer (cover o) bytes text =
    (space : Layers) × (regular_in o.source.kind bytes ≡ Ok space)
    × (c : Covering) × IsNumbered space (wanted_by o) c × IsCoverText o.modulus c text
IsAnswer (make o) bytes text = IsMade o.size o.modulus text
IsAnswer other bytes text = ⊥

-- ---- answers as values

abbrev pub summary_text : Summary → List ℕ
summary_text s = told_text s.size s.space s.chains s.numbers

abbrev pub told_cover_text : ToldCover → List ℕ
told_cover_text told = told_text_of told.cover told.numbers

abbrev pub text_of : Answer → List ℕ
text_of (answer.Cells space) = cells_text space
text_of (answer.Check space components) = components_text space components
text_of (answer.Betti numbers) = betti_text numbers
text_of (answer.Group groups) = groups_text groups.items
text_of (answer.Cover told) = told_cover_text told
text_of (answer.Boundaries space) = boundary_text space
text_of (answer.Summary summary) = summary_text summary

abbrev pub Gives : Asked → List ℕ → Result Answer Outcome → Type 0
Gives asked bytes (Ok answer) = (cause asked bytes ≡ None) × IsAnswer asked bytes (text_of answer)
Gives asked bytes (Err (Refused refusal)) = cause asked bytes ≡ Some (bare refusal)
Gives asked bytes (Err Memory) = ⊤
Gives asked bytes (Err other) = ⊥

abbrev pub GivesIf : {T : Type 0} → (stage : Result Layers Refusal) → Layers → (T → Type 0) → Result T Outcome → Type 0
GivesIf stage space P (Ok value) = (stage ≡ Ok space) × P value
GivesIf stage space P (Err outcome) = Fails stage outcome

pub record CoverGiven (stage : Result Layers Refusal) (w : Wanted) (c : Covering) : Type 0 where
  pub space : Layers
  pub past : stage ≡ Ok space
  pub is : only_cover w stage ≡ Ok c
  pub numbered : IsNumbered space w c

abbrev pub GivesCover : Result Layers Refusal → Wanted → Result Covering Outcome → Type 0
GivesCover stage w (Ok c) = CoverGiven stage w c
GivesCover stage w (Err outcome) = Fails (only_cover w stage) outcome

abbrev pub IsSummary : (size modulus : ℕ) → Summary → Type 0
IsSummary size modulus s =
    (s.size ≡ size) × (s.space ≡ torus_of size) × (s.chains ≡ chain_numbers (torus_of size))
    × AreBetti (field_of modulus) (torus_of size) s.numbers
