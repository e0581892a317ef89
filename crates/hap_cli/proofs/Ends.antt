-- How a run ends, from what a command gives on the bytes of its input and from what is written.
use Rattle.std.proofs.Common.{◌≡◌, ℕ, ◌≤◌, ◌<◌, true, false, List, length, None, Some, Result, Ok, Err, refl, sym, ap, ◌∙◌, subst, inl, inr, arith}
use Rattle.std.specs.Prelude.{IfSome, IsNone, ◌⊎◌, if◌then◌else◌}
use Rattle.std.specs.declared.option.Option.{Option}
use Rattle.std.specs.Io.KnownBytes.{Keeps}
use Rattle.hap_outside.specs.Causes.{Rose, HasCause}
use Rattle.hap_outside.specs.Stores.{Store, bytes_under}
use Rattle.hap_outside.specs.Writes.{Writes}
use Rattle.hap_words.specs.Asked.{Asked, cells, check, betti, cup, verify, migrate, group, covers, cover, report, make, spot_of}
use Rattle.hap_ends.specs.declared.outcome.Outcome.{Outcome}
use Rattle.hap_ends.specs.declared.outcome.Outcome.TheVariants.{Done, Spent, Usage, Refused, ReadFault, WriteFault, Memory}
use Rattle.hap_ends.specs.declared.refusal.Refusal.TheVariants.{TooLong}
use Rattle.hap_ends.specs.Refusals.{refusal_status, bare}
use Rattle.hap_ends.specs.Outcomes.{status_of, written_outcome}
use Rattle.hap_ends.proofs.CallerLemmas.{refused_range, bare_status}
use Rattle.hap_inputs.specs.Input.{input_name, limit_of, told_store, OnNamed, IsRead, IsUnread}
use Rattle.hap_inputs.proofs.CallerLemmas.{less, not_less}
use Rattle.hap_cli.specs.declared.answer.Answer.{Answer}
use Rattle.hap_cli.specs.Refusals.{refusal, cause}
use Rattle.hap_cli.specs.Answers.{text_of, Gives}
use Rattle.hap_cli.specs.Counting.{Counts, CountsBy}
use Rattle.hap_cli.specs.Ends.{ending, status_for, asks_cover, writes_while, may_write, EndsOn, IsEnd, EndsBy}

-- ---- on the bytes of the input

pub within : (asked : Asked) (bytes : List ℕ) → length bytes ≤ limit_of asked → refusal asked bytes ≡ cause asked bytes
within asked bytes short = ap (λ b. if b then Some (TooLong (limit_of asked)) else cause asked bytes) (not_less (limit_of asked) (length bytes) short)

too_long : (asked : Asked) (bytes : List ℕ) → limit_of asked < length bytes → refusal asked bytes ≡ Some (TooLong (limit_of asked))
too_long asked bytes long = ap (λ b. if b then Some (TooLong (limit_of asked)) else cause asked bytes) (less (limit_of asked) (length bytes) long)

-- only a command that writes while it searches has an ending
ending_none : (asked : Asked) (bytes : List ℕ) → writes_while asked ≡ false → ending asked bytes ≡ None
ending_none (cells o) bytes e = refl
ending_none (check o) bytes e = refl
ending_none (betti o) bytes e = refl
ending_none (cup o) bytes e = refl
ending_none (verify o) bytes e = refl
ending_none (migrate o) bytes e = refl
ending_none (group o) bytes e = refl
ending_none (covers o) bytes e = absurd (let bad : true ≡ false = e in cc)
ending_none (cover o) bytes e = refl
ending_none (report o) bytes e = refl
ending_none (make o) bytes e = refl

-- and `cover` has none
cover_none : (asked : Asked) (bytes : List ℕ) → asks_cover (Some asked) ≡ true → ending asked bytes ≡ None
cover_none (cells o) bytes e = refl
cover_none (check o) bytes e = refl
cover_none (betti o) bytes e = refl
cover_none (cup o) bytes e = refl
cover_none (verify o) bytes e = refl
cover_none (migrate o) bytes e = refl
cover_none (group o) bytes e = refl
cover_none (covers o) bytes e = absurd (let bad : false ≡ true = e in cc)
cover_none (cover o) bytes e = refl
cover_none (report o) bytes e = refl
cover_none (make o) bytes e = refl

-- an answer is written
pub answered_end : {T E : Type 0} (asked : Asked) (bytes : List ℕ) (old new : Option (List ℕ)) (before now : ℕ) (answer : Answer) (r : Result T E)
    → length bytes ≤ limit_of asked → writes_while asked ≡ false → Gives asked bytes (Ok answer) → Writes old new (text_of answer) r → HasCause before now r
    → EndsOn asked bytes (Rose before now) old new (written_outcome r)
answered_end asked bytes old new before now answer (Ok x) short before_it g w h = (ending_none asked bytes before_it, record { text = text_of answer; answers = (within asked bytes short ∙ g.0, g.1); appended = w.whole })
answered_end asked bytes old new before now answer (Err e) short before_it g w h = (h.failed, record { text = text_of answer; answers = (within asked bytes short ∙ g.0, g.1); count = w.part.0; less = w.part.1; appended = w.part.2 })

-- no answer is given
pub refused_end : (asked : Asked) (bytes : List ℕ) (write : Type 0) (old : Option (List ℕ)) (outcome : Outcome)
    → length bytes ≤ limit_of asked → Gives asked bytes (Err outcome) → Keeps old old → EndsOn asked bytes write old old outcome
refused_end asked bytes write old (Refused refusal) short g k = (within asked bytes short ∙ g, k)
refused_end asked bytes write old Memory short g k = k
refused_end asked bytes write old Done short g k = absurd g
refused_end asked bytes write old (Spent spot) short g k = absurd g
refused_end asked bytes write old Usage short g k = g
refused_end asked bytes write old ReadFault short g k = g
refused_end asked bytes write old WriteFault short g k = absurd g

-- ---- from there to the input of the command

-- it was read
pub read_end : (asked : Asked) (store : Option Store) (read write : Type 0) (old new : Option (List ℕ)) (bytes : List ℕ) (outcome : Outcome)
    → IsRead asked store bytes → EndsOn asked bytes write old new outcome → IsEnd asked store read write old new outcome
read_end asked store read write old new bytes Done h e = record { bytes = bytes; has = h.0; holds = e }
read_end asked store read write old new bytes (Spent spot) h e = record { bytes = bytes; has = h.0; holds = e }
read_end asked store read write old new bytes Usage h e = absurd e
read_end asked store read write old new bytes (Refused cause) h e = record { bytes = bytes; has = h.0; holds = e }
read_end asked store read write old new bytes ReadFault h e = absurd e
read_end asked store read write old new bytes WriteFault h e = record { bytes = bytes; has = h.0; holds = e }
read_end asked store read write old new bytes Memory h e = e

-- it was not
pub unread_end : (asked : Asked) (store : Option Store) (read write : Type 0) (old : Option (List ℕ)) (outcome : Outcome)
    → IsUnread asked store read outcome → Keeps old old → IsEnd asked store read write old old outcome
unread_end asked store read write old (Refused cause) h k =
    record { bytes = h.1.bytes; has = h.1.has; holds = (subst (λ c. refusal asked h.1.bytes ≡ Some (bare c)) (sym h.0) (too_long asked h.1.bytes h.1.holds), k) }
unread_end asked store read write old ReadFault h k = (h, k)
unread_end asked store read write old Memory h k = k
unread_end asked store read write old Done h k = absurd h
unread_end asked store read write old (Spent spot) h k = absurd h
unread_end asked store read write old Usage h k = absurd h
unread_end asked store read write old WriteFault h k = absurd h

-- an input that was not read is told by 5, 7 or 9
pub unread_status : (asked : Asked) (store : Option Store) (read : Type 0) (outcome : Outcome) → IsUnread asked store read outcome → (status_of outcome ≡ 0) ⊎ (status_of outcome ≡ 6) → ⊥
unread_status asked store read (Refused cause) h s = never (subst (λ c. (refusal_status c ≡ 0) ⊎ (refusal_status c ≡ 6)) h.0 s)
  where
    five : ℕ
    five = 5

    never : (five ≡ 0) ⊎ (five ≡ 6) → ⊥
    never (inl e) = omega (arith, e)
    never (inr e) = omega (arith, e)
unread_status asked store read ReadFault h (inl e) = omega (arith, e)
unread_status asked store read ReadFault h (inr e) = omega (arith, e)
unread_status asked store read Memory h (inl e) = omega (arith, e)
unread_status asked store read Memory h (inr e) = omega (arith, e)
unread_status asked store read Done h s = h
unread_status asked store read (Spent spot) h s = h
unread_status asked store read Usage h s = h
unread_status asked store read WriteFault h s = h

-- and writes nothing
pub unread_quiet : (asked : Asked) (store : Option Store) (read : Type 0) (outcome : Outcome) → IsUnread asked store read outcome → may_write outcome ≡ false
unread_quiet asked store read (Refused cause) h = refl
unread_quiet asked store read ReadFault h = refl
unread_quiet asked store read Memory h = refl
unread_quiet asked store read Done h = absurd h
unread_quiet asked store read (Spent spot) h = absurd h
unread_quiet asked store read Usage h = refl
unread_quiet asked store read WriteFault h = absurd h

-- the steps on the bytes that were read
pub read_steps : (asked : Asked) (store : Option Store) (bytes : List ℕ) (old new : ℕ) → IsRead asked store bytes → Counts asked bytes old new → CountsBy asked store old new
read_steps asked store bytes old new h c = inr (record { bytes = bytes; has = h.0; holds = c })

-- ---- from there to the words

-- the words end as the command ends that they ask for
pub asked_end : (o : Option Asked) (asked : Asked) (store : Option Store) (read write : Type 0) (old new : Option (List ℕ)) (outcome : Outcome)
    → o ≡ Some asked → IsEnd asked store read write old new outcome → EndsBy o store read write old new outcome
asked_end o asked store read write old new outcome e h = subst (λ o. EndsBy o store read write old new outcome) (sym e) h

-- want of memory may be told at any words
pub memory_end : (o : Option Asked) (store : Option Store) (read write : Type 0) (old : Option (List ℕ)) → Keeps old old
    → EndsBy o store read write old old Memory
memory_end None store read write old h = inr refl
memory_end (Some asked) store read write old h = h

-- ---- what the status tells

-- what holds of the bytes that the source has holds of those that it tells
told : (store : Option Store) (name : Option (List ℕ)) (P Q : List ℕ → Type 0) → OnNamed name store P → ((bytes : List ℕ) → P bytes → Q bytes) → IfSome (bytes_under store name) Q
told None name P Q h f = tt
told (Some store) name P Q h f = subst (λ o. IfSome o Q) (sym h.has) (f h.bytes h.holds)

always : (b : Option (List ℕ)) (Q : List ℕ → Type 0) → ((bytes : List ℕ) → Q bytes) → IfSome b Q
always None Q f = tt
always (Some bytes) Q f = f bytes

-- where nothing failed outside, the status is that of the refusal, else of the ending, or memory was wanting
pub exact_end : (o : Option Asked) (store : Option Store) (read write : Type 0) (old new : Option (List ℕ)) (outcome : Outcome) (status : ℕ) → status ≡ status_of outcome
    → EndsBy o store read write old new outcome
    → IfSome o (λ asked. IfSome (bytes_under (told_store asked store) (input_name asked)) (λ bytes. (read → ⊥) → (write → ⊥) → (status ≡ status_for (refusal asked bytes) (ending asked bytes)) ⊎ (status ≡ 9)))
exact_end None store read write old new outcome status e h = tt
exact_end (Some asked) store read write old new outcome status e h = at outcome e h
  where
    Told : List ℕ → Type 0
    Told bytes = (read → ⊥) → (write → ⊥) → (status ≡ status_for (refusal asked bytes) (ending asked bytes)) ⊎ (status ≡ 9)

    at : (outcome : Outcome) → status ≡ status_of outcome → IsEnd asked store read write old new outcome → IfSome (bytes_under (told_store asked store) (input_name asked)) Told
    at Done e h = told (told_store asked store) (input_name asked) (λ bytes. EndsOn asked bytes write old new Done) Told h
        (λ bytes p r w. inl (e ∙ sym (ap (λ c. status_for c (ending asked bytes)) p.1.answers.0 ∙ ap (status_for None) p.0)))
    at (Spent spot) e h = told (told_store asked store) (input_name asked) (λ bytes. EndsOn asked bytes write old new (Spent spot)) Told h
        (λ bytes p r w. inl (e ∙ sym (ap (λ c. status_for c (ending asked bytes)) p.1.answers.0 ∙ ap (status_for None) p.0)))
    at (Refused cause) e h = told (told_store asked store) (input_name asked) (λ bytes. EndsOn asked bytes write old new (Refused cause)) Told h
        (λ bytes p r w. inl (e ∙ sym (ap (λ c. status_for c (ending asked bytes)) p.0 ∙ bare_status cause)))
    at Usage e h = absurd h.holds
    at ReadFault e h = always (bytes_under (told_store asked store) (input_name asked)) Told (λ bytes r w. absurd (r h.0))
    at WriteFault e h = always (bytes_under (told_store asked store) (input_name asked)) Told (λ bytes r w. absurd (w h.holds.0))
    at Memory e h = always (bytes_under (told_store asked store) (input_name asked)) Told (λ bytes r w. inr e)

-- where the words are refused
pub usage_end : (o : Option Asked) (store : Option Store) (read write : Type 0) (old new : Option (List ℕ)) (outcome : Outcome) (status : ℕ) → status ≡ status_of outcome
    → EndsBy o store read write old new outcome → IsNone o → (status ≡ 2) ⊎ (status ≡ 9)
usage_end None store read write old new outcome status e (inl h) n = inl (e ∙ ap status_of h)
usage_end None store read write old new outcome status e (inr h) n = inr (e ∙ ap status_of h)
usage_end (Some asked) store read write old new outcome status e h n = absurd (let bad : true ≡ false = n in cc)

-- a fault outside is told only where a count rose
pub read_fault : (o : Option Asked) (store : Option Store) (read write : Type 0) (old new : Option (List ℕ)) (outcome : Outcome) (status : ℕ) → status ≡ status_of outcome
    → EndsBy o store read write old new outcome → status ≡ 7 → read
read_fault None store read write old new outcome status e (inl h) s = absurd (omega (arith, e ∙ ap status_of h, s))
read_fault None store read write old new outcome status e (inr h) s = absurd (omega (arith, e ∙ ap status_of h, s))
read_fault (Some asked) store read write old new outcome status e h s = at outcome (sym s ∙ e) h
  where
    at : (outcome : Outcome) → 7 ≡ status_of outcome → IsEnd asked store read write old new outcome → read
    at Done e h = absurd (omega (arith, e))
    at (Spent spot) e h = absurd (omega (arith, e))
    at Usage e h = absurd h.holds
    at (Refused cause) e h = absurd (omega (arith, e, (refused_range cause).1))
    at ReadFault e h = h.0
    at WriteFault e h = absurd (omega (arith, e))
    at Memory e h = absurd (omega (arith, e))

pub write_fault : (o : Option Asked) (store : Option Store) (read write : Type 0) (old new : Option (List ℕ)) (outcome : Outcome) (status : ℕ) → status ≡ status_of outcome
    → EndsBy o store read write old new outcome → status ≡ 8 → write
write_fault None store read write old new outcome status e (inl h) s = absurd (omega (arith, e ∙ ap status_of h, s))
write_fault None store read write old new outcome status e (inr h) s = absurd (omega (arith, e ∙ ap status_of h, s))
write_fault (Some asked) store read write old new outcome status e h s = at outcome (sym s ∙ e) h
  where
    at : (outcome : Outcome) → 8 ≡ status_of outcome → IsEnd asked store read write old new outcome → write
    at Done e h = absurd (omega (arith, e))
    at (Spent spot) e h = absurd (omega (arith, e))
    at Usage e h = absurd h.holds
    at (Refused cause) e h = absurd (omega (arith, e, (refused_range cause).1))
    at ReadFault e h = absurd (omega (arith, e))
    at WriteFault e h = h.holds.0
    at Memory e h = absurd (omega (arith, e))

-- only a run that is told by 0, 6 or 8 may have written
pub quiet_status : (outcome : Outcome) (status : ℕ) → status ≡ status_of outcome → (status ≡ 0 → ⊥) → (status ≡ 6 → ⊥) → (status ≡ 8 → ⊥) → may_write outcome ≡ false
quiet_status Done status e zero six eight = absurd (zero e)
quiet_status (Spent spot) status e zero six eight = absurd (six e)
quiet_status Usage status e zero six eight = refl
quiet_status (Refused cause) status e zero six eight = refl
quiet_status ReadFault status e zero six eight = refl
quiet_status WriteFault status e zero six eight = absurd (eight e)
quiet_status Memory status e zero six eight = refl

-- and of `cover` none that is told by 6
pub cover_quiet : (o : Option Asked) (store : Option Store) (read write : Type 0) (old new : Option (List ℕ)) (outcome : Outcome) (status : ℕ) → status ≡ status_of outcome
    → EndsBy o store read write old new outcome → asks_cover o ≡ true → status ≡ 6 → may_write outcome ≡ false
cover_quiet None store read write old new outcome status e h a s = absurd (let bad : false ≡ true = a in cc)
cover_quiet (Some asked) store read write old new outcome status e h a s = at outcome (sym s ∙ e) h
  where
    at : (outcome : Outcome) → 6 ≡ status_of outcome → IsEnd asked store read write old new outcome → may_write outcome ≡ false
    at Done e h = absurd (omega (arith, e))
    at (Spent spot) e h = let bad : None ≡ Some (spot_of spot) = sym (cover_none asked h.bytes a) ∙ h.holds.0 in absurd cc
    at Usage e h = refl
    at (Refused cause) e h = refl
    at ReadFault e h = refl
    at WriteFault e h = absurd (omega (arith, e))
    at Memory e h = refl

-- a run is done where its status is 0
pub done_status : (outcome : Outcome) → status_of outcome ≡ 0 → outcome ≡ Done
done_status Done e = refl
done_status (Spent spot) e = absurd (omega (arith, e))
done_status Usage e = absurd (omega (arith, e))
done_status (Refused cause) e = absurd (omega (arith, e, (refused_range cause).0))
done_status ReadFault e = absurd (omega (arith, e))
done_status WriteFault e = absurd (omega (arith, e))
done_status Memory e = absurd (omega (arith, e))
