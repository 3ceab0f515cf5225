-- Turns tell of no block.
use Rattle.run_read_laws.proofs.Common.{◌≡◌, ℕ, Option, Some, None, List, [], ◌++◌, length, inl, refl, subst, slice_get, flat_map, option_to_list, MachineState, Task, TaskStatus, Running, Waiting, Ended, Joined, born, used, yielded, In, in_append_left, in_append_right, in_flat, GraphStrand, strand_now, turn_events, spot, spot_after, Event, Act, moved_lines}
use Rattle.run_read_laws.proofs.Steps.{IsIdle}

-- the blocks that an act bears, yields or uses
abbrev blocks_of : Act → List ℕ
blocks_of a = option_to_list (born a) ++ (option_to_list (yielded a) ++ option_to_list (used a))

abbrev blocks_in : List Event → List ℕ
blocks_in events = flat_map (λ e. blocks_of e.act) events

none_of : (o : Option ℕ) → ((b : ℕ) → In (option_to_list o) b → ⊥) → o ≡ None
none_of None h = refl
none_of (Some b) h = absurd (h b (inl refl))

idle_act : (a : Act) → ((b : ℕ) → In (blocks_of a) b → ⊥) → IsIdle a
idle_act a h =
    let bs = option_to_list (born a) in
    let ys = option_to_list (yielded a) in
    let us = option_to_list (used a) in (
      none_of (born a) (λ b i. h b (in_append_left bs (ys ++ us) b i)),
      none_of (yielded a) (λ b i. h b (in_append_right bs (ys ++ us) b (in_append_left ys us b i))),
      none_of (used a) (λ b i. h b (in_append_right bs (ys ++ us) b (in_append_right ys us b i))),
    )

idle_in : (events : List Event) → blocks_in events ≡ [] → (e : Event) → In events e → IsIdle e.act
idle_in events none e i = idle_act e.act (λ b j. subst (λ bs. In bs b) none (in_flat (λ (d : Event). blocks_of d.act) events e b i j))

module _ (u : GraphStrand) (made : ℕ) (m : MachineState) (t : ℕ) where
  abbrev told : Option Task → List Event
  told o = (spot_after (spot (Some u) []) (moved_lines made m t o)).events

  by_status : (parent : Option ℕ) (status : TaskStatus) (x : Task) → x.parent ≡ parent → x.status ≡ status → blocks_in (told (Some x)) ≡ []
  by_status parent Running x p s = rw s refl
  by_status parent Waiting x p s = rw s refl
  by_status parent (Ended k n) x p s = rw s refl
  by_status None Joined x p s = rw (s, p) refl
  by_status (Some q) Joined x p s = rw (s, p) refl

  none_told : (o : Option Task) → blocks_in (told o) ≡ []
  none_told None = refl
  none_told (Some x) = by_status x.parent x.status x refl refl

pub idle_turns : (m m' : MachineState) (t : ℕ) (e : Event) → In (turn_events m m' t) e → IsIdle e.act
idle_turns m m' t e i = idle_in (turn_events m m' t) (none_told (strand_now m t) (length m.tasks) m' t (slice_get m'.tasks t)) e i
