-- A state in shape keeps each rule.
-- Assumes nothing.
use mathlib.Core.Path.{◌≡◌}
use mathlib.Core.Bool.{Bool, true, ◌&&◌}
use Rattle.basics.proofs.Branches.{and_left, and_right}
use Rattle.setup.specs.Setup.{in_range}
use Rattle.ends.specs.declared.End.{End}
use Rattle.shape.specs.Shape.{within_bounds, in_place, frames_fit, numbers_fit, numbers_run, replay_in, marks_in_use, room_adds_up, in_shape}

-- the rules of a state, one by one
pub record Kept (e : End) : Type 0 where
  pub setup : in_range e.setup ≡ true
  pub bounds : within_bounds e.sender e.receiver ≡ true
  pub place : in_place e.setup e.sender e.receiver ≡ true
  pub frames : frames_fit e.sender e.receiver ≡ true
  pub numbers : numbers_fit e.sender e.receiver ≡ true
  pub run : numbers_run e.sender ≡ true
  pub replay : replay_in e.sender ≡ true
  pub marks : marks_in_use e.setup.n e.receiver ≡ true
  pub room : room_adds_up e.setup e.receiver ≡ true

-- nine tests in a row
module _ (a b c d f g h i j : Bool) where
  abbrev all-nine : Bool
  all-nine = a && (b && (c && (d && (f && (g && (h && (i && j)))))))

  nine : all-nine ≡ true
      → (a ≡ true) × (b ≡ true) × (c ≡ true) × (d ≡ true) × (f ≡ true) × (g ≡ true) × (h ≡ true) × (i ≡ true) × (j ≡ true)
  nine t =
      let t1 = and_right a (b && (c && (d && (f && (g && (h && (i && j))))))) t in
      let t2 = and_right b (c && (d && (f && (g && (h && (i && j)))))) t1 in
      let t3 = and_right c (d && (f && (g && (h && (i && j))))) t2 in
      let t4 = and_right d (f && (g && (h && (i && j)))) t3 in
      let t5 = and_right f (g && (h && (i && j))) t4 in
      let t6 = and_right g (h && (i && j)) t5 in
      let t7 = and_right h (i && j) t6 in (
        and_left a (b && (c && (d && (f && (g && (h && (i && j))))))) t,
        and_left b (c && (d && (f && (g && (h && (i && j)))))) t1,
        and_left c (d && (f && (g && (h && (i && j))))) t2,
        and_left d (f && (g && (h && (i && j)))) t3,
        and_left f (g && (h && (i && j))) t4,
        and_left g (h && (i && j)) t5,
        and_left h (i && j) t6,
        and_left i j t7,
        and_right i j t7,
      )

pub in_shape_parts : (e : End) → in_shape e ≡ true → Kept e
unfolding in_shape
in_shape_parts e t =
    let k =
    nine (in_range e.setup) (within_bounds e.sender e.receiver) (in_place e.setup e.sender e.receiver) (frames_fit e.sender e.receiver)
    (numbers_fit e.sender e.receiver) (numbers_run e.sender) (replay_in e.sender) (marks_in_use e.setup.n e.receiver)
    (room_adds_up e.setup e.receiver) t in
    record {
      setup = k.0;
      bounds = k.1;
      place = k.2;
      frames = k.3;
      numbers = k.4;
      run = k.5;
      replay = k.6;
      marks = k.7;
      room = k.8;
    }

-- and back: a state that keeps each rule is in shape
pub in_shape_whole : (e : End) → Kept e → in_shape e ≡ true
unfolding in_shape
in_shape_whole e k =
    rw (k.setup, k.bounds, k.place, k.frames, k.numbers, k.run, k.replay, k.marks, k.room)
