-- Go's grammar: which trees stand at the front of a list of tokens. `IsExpr .. t s r d` says that the tree t stands at
-- the front of the tokens s, that r is what follows it, and that it nests d deep. Each rule names its place in the Go specification.
use Rattle.std.specs.Prelude.{◌≡◌, ℕ, zero, suc, max, Bool, true, false, List, [], ◌∷◌, length, Option, Some, None}
use Rattle.gs_syntax.specs.declared.token.Span.{Span}
use Rattle.gs_syntax.specs.declared.token.Token.{Token}
use Rattle.gs_syntax.specs.declared.token.Operator.TheVariants as mark
use Rattle.gs_syntax.specs.declared.token.Keyword.TheVariants as word
use Rattle.gs_grammar.specs.declared.trees.Chunk.{Chunk}
use Rattle.gs_grammar.specs.declared.trees.Chunk.TheVariants as ch
use Rattle.gs_grammar.specs.declared.trees.ImportSpec.{ImportSpec}
use Rattle.gs_grammar.specs.declared.trees.ImportSpec.TheVariants as im
use Rattle.gs_grammar.specs.declared.trees.Top.{Top}
use Rattle.gs_grammar.specs.declared.trees.Top.TheVariants as tp
use Rattle.gs_grammar.specs.declared.trees.Decl.{Decl}
use Rattle.gs_grammar.specs.declared.trees.Decl.TheVariants as de
use Rattle.gs_grammar.specs.declared.trees.ConstSpec.{ConstSpec}
use Rattle.gs_grammar.specs.declared.trees.ConstSpec.TheVariants as cns
use Rattle.gs_grammar.specs.declared.trees.TypeSpec.{TypeSpec}
use Rattle.gs_grammar.specs.declared.trees.TypeSpec.TheVariants as tys
use Rattle.gs_grammar.specs.declared.trees.VarSpec.{VarSpec}
use Rattle.gs_grammar.specs.declared.trees.VarSpec.TheVariants as vs
use Rattle.gs_grammar.specs.declared.trees.TypeExpr.{TypeExpr}
use Rattle.gs_grammar.specs.declared.trees.TypeExpr.TheVariants as ty
use Rattle.gs_grammar.specs.declared.trees.Signature.{Signature}
use Rattle.gs_grammar.specs.declared.trees.Signature.TheVariants as sg
use Rattle.gs_grammar.specs.declared.trees.Parameters.{Parameters}
use Rattle.gs_grammar.specs.declared.trees.Parameter.{Parameter}
use Rattle.gs_grammar.specs.declared.trees.Parameter.TheVariants as pa
use Rattle.gs_grammar.specs.declared.trees.Field.{Field}
use Rattle.gs_grammar.specs.declared.trees.Field.TheVariants as fi
use Rattle.gs_grammar.specs.declared.trees.Member.{Member}
use Rattle.gs_grammar.specs.declared.trees.Member.TheVariants as me
use Rattle.gs_grammar.specs.declared.trees.Expr.{Expr}
use Rattle.gs_grammar.specs.declared.trees.Expr.TheVariants as ex
use Rattle.gs_grammar.specs.declared.trees.Suffix.{Suffix}
use Rattle.gs_grammar.specs.declared.trees.Suffix.TheVariants as sf
use Rattle.gs_grammar.specs.declared.trees.LiteralValue.{LiteralValue}
use Rattle.gs_grammar.specs.declared.trees.Element.{Element}
use Rattle.gs_grammar.specs.declared.trees.Element.TheVariants as el
use Rattle.gs_grammar.specs.declared.trees.ElementValue.{ElementValue}
use Rattle.gs_grammar.specs.declared.trees.ElementValue.TheVariants as ev
use Rattle.gs_grammar.specs.declared.trees.Block.{Block}
use Rattle.gs_grammar.specs.declared.trees.Stmt.{Stmt}
use Rattle.gs_grammar.specs.declared.trees.Stmt.TheVariants as st
use Rattle.gs_grammar.specs.declared.trees.Simple.{Simple}
use Rattle.gs_grammar.specs.declared.trees.Simple.TheVariants as si
use Rattle.gs_grammar.specs.declared.trees.Arm.{Arm}
use Rattle.gs_grammar.specs.declared.trees.Clause.{Clause}
use Rattle.gs_grammar.specs.declared.trees.Clause.TheVariants as cl
use Rattle.gs_grammar.specs.declared.trees.TypeClause.{TypeClause}
use Rattle.gs_grammar.specs.declared.trees.TypeClause.TheVariants as tc
use Rattle.gs_grammar.specs.declared.trees.CommClause.{CommClause}
use Rattle.gs_grammar.specs.declared.trees.CommClause.TheVariants as co
use Rattle.gs_grammar.specs.declared.trees.Comm.{Comm}
use Rattle.gs_grammar.specs.declared.trees.Comm.TheVariants as cm
use Rattle.gs_grammar.specs.declared.trees.RangeLeft.{RangeLeft}
use Rattle.gs_grammar.specs.declared.trees.RangeLeft.TheVariants as rl
use Rattle.gs_grammar.specs.Front.{operator, IsMark, IsWord, IsName, IsText, IsFront, IsTrail, mark_at, word_at, front_at, selector_at, label_at, defined_at, is_basic, is_binary, is_bound_end, is_composite_start, is_decl_start, is_embed_end, is_field_end, is_goes_on, is_list_end, is_other_start, is_semi, is_sign, is_spec_end, is_step, is_stmt_end, is_stop, is_update}
use Rattle.gs_grammar.specs.Parts.{suffixed, binary, make_parameters, make_literal, make_block, make_arm, is_single, is_receiver, is_define}

-- what a rule may ask for at a later place
pub data Part : Type 0 where
  a_type : Part
  a_named : Bool → Part
  a_literal : Part
  a_selected : Part
  a_block : Part
  a_received : Part
  a_suffix : Part
  an_operand : ℕ → Bool → Part
  a_guard : Part
  a_header : Part
  a_range : Part

-- `Stands p s r`: such a part stands at the front of s, which is shorter than the tokens at hand, and r follows it.
module _ (Stands : Part → List Token → List Token → Type 0) where
  -- no such part stands at the front of r
  abbrev pub Lacks : Part → List Token → Type 0
  Lacks p r = (u : List Token) → Stands p r u → ⊥

  mutual
    -- ---- Names and types

    -- IdentifierList (Constant declarations)
    pub data AreNames : List Token → List Token → List Token → ℕ → Type 0 where
      one_name : {x : Token} {s r : List Token} → IsName x s r → mark_at mark.Comma r ≡ None → AreNames (x ∷ []) s r 0
      more_names : {p1 : Span} {x : Token} {xs : List Token} {s s1 s2 r : List Token} {d : ℕ} → IsName x s s1 → IsMark mark.Comma p1 s1 s2 → AreNames xs s2 r d → AreNames (x ∷ xs) s r d

    -- TypeName: a name takes a selector where one follows (Types)
    pub data IsTypeName : TypeExpr → List Token → List Token → ℕ → Type 0 where
      bare : {x : Token} {s r : List Token} → IsName x s r → selector_at r ≡ None → IsTypeName (ty.Name x) s r 0
      qualified : {p1 : Span} {x y : Token} {s s1 s2 r : List Token} → IsName x s s1 → IsMark mark.Dot p1 s1 s2 → IsName y s2 r → IsTypeName (ty.Qualified x y) s r 0

    -- Type (Types)
    pub data IsType : TypeExpr → List Token → List Token → ℕ → Type 0 where
      named : {t : TypeExpr} {s r : List Token} {d : ℕ} → IsTypeName t s r d → IsType t s r d
      paren_type : {p q : Span} {t : TypeExpr} {s s1 s2 r : List Token} {d : ℕ} → IsMark mark.LeftParen p s s1 → IsType t s1 s2 d → IsMark mark.RightParen q s2 r → IsType (ty.Paren p t q) s r (suc d)
      pointer : {p : Span} {t : TypeExpr} {s s1 r : List Token} {d : ℕ} → IsMark mark.Star p s s1 → IsType t s1 r d → IsType (ty.Pointer p t) s r (suc d)
      slice : {p p1 : Span} {t : TypeExpr} {s s1 s2 r : List Token} {d : ℕ} → IsMark mark.LeftBracket p s s1 → IsMark mark.RightBracket p1 s1 s2 → IsType t s2 r d → IsType (ty.Slice p t) s r (suc d)
      array : {p p4 : Span} {y : Expr} {t : TypeExpr} {s s1 s2 s3 r : List Token} {d1 d2 : ℕ} → IsMark mark.LeftBracket p s s1 → mark_at mark.RightBracket s1 ≡ None → mark_at mark.Ellipsis s1 ≡ None → IsExpr 5 false false y s1 s2 d1 → IsMark mark.RightBracket p4 s2 s3 → IsType t s3 r d2 → IsType (ty.Array p y t) s r (suc (max d1 d2))
      map_type : {p p1 p3 : Span} {t : TypeExpr} {u : TypeExpr} {s s1 s2 s3 s4 r : List Token} {d1 d2 : ℕ} → IsWord word.Map p s s1 → IsMark mark.LeftBracket p1 s1 s2 → IsType t s2 s3 d1 → IsMark mark.RightBracket p3 s3 s4 → IsType u s4 r d2 → IsType (ty.Map p t u) s r (suc (max d1 d2))
      channel : {p : Span} {t : TypeExpr} {s s1 r : List Token} {d : ℕ} → IsWord word.Chan p s s1 → mark_at mark.Arrow s1 ≡ None → IsType t s1 r d → IsType (ty.Channel p t) s r (suc d)
      send_channel : {p p1 : Span} {t : TypeExpr} {s s1 s2 r : List Token} {d : ℕ} → IsWord word.Chan p s s1 → IsMark mark.Arrow p1 s1 s2 → IsType t s2 r d → IsType (ty.SendChannel p t) s r (suc d)
      receive_channel : {p p1 : Span} {t : TypeExpr} {s s1 s2 r : List Token} {d : ℕ} → IsMark mark.Arrow p s s1 → IsWord word.Chan p1 s1 s2 → IsType t s2 r d → IsType (ty.ReceiveChannel p t) s r (suc d)
      function_type : {p : Span} {z : Signature} {s s1 r : List Token} {d : ℕ} → IsWord word.Func p s s1 → IsSignature z s1 r d → IsType (ty.Function p z) s r (suc d)
      struct_type : {p p1 q : Span} {fs : List Field} {s s1 s2 s3 r : List Token} {d : ℕ} → IsWord word.Struct p s s1 → IsMark mark.LeftBrace p1 s1 s2 → AreFields fs s2 s3 d → IsMark mark.RightBrace q s3 r → IsType (ty.Struct p fs q) s r (suc d)
      interface_type : {p p1 q : Span} {ms : List Member} {s s1 s2 s3 r : List Token} {d : ℕ} → IsWord word.Interface p s s1 → IsMark mark.LeftBrace p1 s1 s2 → AreMembers ms s2 s3 d → IsMark mark.RightBrace q s3 r → IsType (ty.Interface p ms q) s r (suc d)

    -- Parameters without names, up to the parenthesis; v: dots may stand before the last type (Function types)
    pub data AreUnnamed : Bool → List Parameter → List Token → List Token → ℕ → Type 0 where
      last_type : {v : Bool} {t : TypeExpr} {s s1 r : List Token} {d : ℕ} → IsType t s s1 d → IsTrail mark.RightParen s1 r → AreUnnamed v (pa.Plain t ∷ []) s r d
      more_types : {v : Bool} {p1 : Span} {t : TypeExpr} {ps : List Parameter} {s s1 s2 r : List Token} {d1 d2 : ℕ} → IsType t s s1 d1 → IsMark mark.Comma p1 s1 s2 → mark_at mark.RightParen s2 ≡ None → AreUnnamed v ps s2 r d2 → AreUnnamed v (pa.Plain t ∷ ps) s r (max d1 d2)
      last_dots : {v : Bool} {p : Span} {t : TypeExpr} {s s1 s2 r : List Token} {d : ℕ} → IsMark mark.Ellipsis p s s1 → v ≡ true → IsType t s1 s2 d → IsTrail mark.RightParen s2 r → AreUnnamed v (pa.Variadic p t ∷ []) s r d

    -- Parameters with names (Function types)
    pub data AreNamed : Bool → List Parameter → List Token → List Token → ℕ → Type 0 where
      last_named_dots : {v : Bool} {p : Span} {xs : List Token} {t : TypeExpr} {s s1 s2 s3 r : List Token} {d1 d2 : ℕ} → AreNames xs s s1 d1 → IsMark mark.Ellipsis p s1 s2 → is_single xs ≡ true → v ≡ true → IsType t s2 s3 d2 → IsTrail mark.RightParen s3 r → AreNamed v (pa.NamedVariadic xs p t ∷ []) s r (max d1 d2)
      last_named : {v : Bool} {xs : List Token} {t : TypeExpr} {s s1 s2 r : List Token} {d1 d2 : ℕ} → AreNames xs s s1 d1 → mark_at mark.Ellipsis s1 ≡ None → IsType t s1 s2 d2 → IsTrail mark.RightParen s2 r → AreNamed v (pa.Named xs t ∷ []) s r (max d1 d2)
      more_named : {v : Bool} {p3 : Span} {xs : List Token} {t : TypeExpr} {ps : List Parameter} {s s1 s2 s3 r : List Token} {d1 d2 d3 : ℕ} → AreNames xs s s1 d1 → mark_at mark.Ellipsis s1 ≡ None → IsType t s1 s2 d2 → IsMark mark.Comma p3 s2 s3 → mark_at mark.RightParen s3 ≡ None → AreNamed v ps s3 r d3 → AreNamed v (pa.Named xs t ∷ ps) s r (max d1 (max d2 d3))

    -- Parameters: all have names or none has (Function types)
    pub data AreParams : Bool → Parameters → List Token → List Token → ℕ → Type 0 where
      no_params : {v : Bool} {p q : Span} {s s1 r : List Token} → IsMark mark.LeftParen p s s1 → IsMark mark.RightParen q s1 r → AreParams v (make_parameters p [] q) s r 1
      named_list : {v : Bool} {p q : Span} {ps : List Parameter} {s s1 s2 r : List Token} {d : ℕ} → IsMark mark.LeftParen p s s1 → mark_at mark.RightParen s1 ≡ None → AreNamed v ps s1 s2 d → IsMark mark.RightParen q s2 r → AreParams v (make_parameters p ps q) s r (suc d)
      unnamed_list : {v : Bool} {p q : Span} {ps : List Parameter} {s s1 s2 r : List Token} {d : ℕ} → IsMark mark.LeftParen p s s1 → mark_at mark.RightParen s1 ≡ None → Lacks (a_named v) s1 → AreUnnamed v ps s1 s2 d → IsMark mark.RightParen q s2 r → AreParams v (make_parameters p ps q) s r (suc d)

    -- Signature: a parenthesis directly behind the parameters begins results, and a type that begins there is the result (Function types)
    pub data IsSignature : Signature → List Token → List Token → ℕ → Type 0 where
      results : {p1 : Span} {ps : Parameters} {qs : Parameters} {s s1 r w1 : List Token} {d1 d2 : ℕ} → AreParams true ps s s1 d1 → IsMark mark.LeftParen p1 s1 w1 → AreParams false qs s1 r d2 → IsSignature (sg.Results ps qs) s r (max d1 d2)
      result : {ps : Parameters} {t : TypeExpr} {s s1 r : List Token} {d1 d2 : ℕ} → AreParams true ps s s1 d1 → mark_at mark.LeftParen s1 ≡ None → IsType t s1 r d2 → IsSignature (sg.Result ps t) s r (max d1 d2)
      plain : {ps : Parameters} {s r : List Token} {d : ℕ} → AreParams true ps s r d → mark_at mark.LeftParen r ≡ None → Lacks a_type r → IsSignature (sg.Plain ps) s r d

    -- Tag (Struct types)
    pub data IsTag : Option Token → List Token → List Token → ℕ → Type 0 where
      a_tag : {x : Token} {s r : List Token} → IsText x s r → IsTag (Some x) s r 0
      no_tag : {x0 : Token} {r w0 : List Token} → IsFront is_field_end x0 r w0 → IsTag None r r 0

    -- FieldDecl (Struct types)
    pub data IsField : Field → List Token → List Token → ℕ → Type 0 where
      named_field : {xs : List Token} {t : TypeExpr} {z : Option Token} {s s1 s2 r : List Token} {d1 d2 d3 : ℕ} → AreNames xs s s1 d1 → front_at is_embed_end s1 ≡ None → mark_at mark.Dot s1 ≡ None → IsType t s1 s2 d2 → IsTag z s2 r d3 → IsField (fi.Named xs t z) s r (max d1 (max d2 d3))
      embedded_field : {x x1 : Token} {z : Option Token} {s s1 r w1 : List Token} {d : ℕ} → IsName x s s1 → IsFront is_embed_end x1 s1 w1 → IsTag z s1 r d → IsField (fi.Embedded (ty.Name x) z) s r d
      qualified_field : {p1 : Span} {x y : Token} {z : Option Token} {s s1 s2 s3 r : List Token} {d : ℕ} → IsName x s s1 → IsMark mark.Dot p1 s1 s2 → IsName y s2 s3 → IsTag z s3 r d → IsField (fi.Embedded (ty.Qualified x y) z) s r d
      pointer_field : {p : Span} {t : TypeExpr} {z : Option Token} {s s1 s2 r : List Token} {d1 d2 : ℕ} → IsMark mark.Star p s s1 → IsTypeName t s1 s2 d1 → IsTag z s2 r d2 → IsField (fi.Embedded (ty.Pointer p t) z) s r (suc (max d1 d2))

    -- Up to the brace
    pub data AreFields : List Field → List Token → List Token → ℕ → Type 0 where
      last_field : {p1 : Span} {y : Field} {s r w1 : List Token} {d : ℕ} → IsField y s r d → IsMark mark.RightBrace p1 r w1 → AreFields (y ∷ []) s r d
      more_fields : {x : Token} {y : Field} {fs : List Field} {s s1 s2 r : List Token} {d1 d2 : ℕ} → IsField y s s1 d1 → IsFront is_semi x s1 s2 → AreFields fs s2 r d2 → AreFields (y ∷ fs) s r (max d1 d2)
      no_fields : {p0 : Span} {r w0 : List Token} → IsMark mark.RightBrace p0 r w0 → AreFields [] r r 0

    -- MethodSpec, InterfaceTypeName (Interface types)
    pub data IsMember : Member → List Token → List Token → ℕ → Type 0 where
      method : {p1 : Span} {x : Token} {z : Signature} {s s1 r w1 : List Token} {d : ℕ} → IsName x s s1 → IsMark mark.LeftParen p1 s1 w1 → IsSignature z s1 r d → IsMember (me.Method x z) s r d
      embedded_interface : {x : Token} {s r : List Token} → IsName x s r → mark_at mark.LeftParen r ≡ None → selector_at r ≡ None → IsMember (me.Embedded (ty.Name x)) s r 0
      qualified_interface : {p1 : Span} {x y : Token} {s s1 s2 r : List Token} → IsName x s s1 → IsMark mark.Dot p1 s1 s2 → IsName y s2 r → IsMember (me.Embedded (ty.Qualified x y)) s r 0

    pub data AreMembers : List Member → List Token → List Token → ℕ → Type 0 where
      last_member : {p1 : Span} {m : Member} {s r w1 : List Token} {d : ℕ} → IsMember m s r d → IsMark mark.RightBrace p1 r w1 → AreMembers (m ∷ []) s r d
      more_members : {x : Token} {m : Member} {ms : List Member} {s s1 s2 r : List Token} {d1 d2 : ℕ} → IsMember m s s1 d1 → IsFront is_semi x s1 s2 → AreMembers ms s2 r d2 → AreMembers (m ∷ ms) s r (max d1 d2)
      no_members : {p0 : Span} {r w0 : List Token} → IsMark mark.RightBrace p0 r w0 → AreMembers [] r r 0

    -- ---- Expressions

    -- LiteralValue (Composite literals)
    pub data IsLiteral : LiteralValue → List Token → List Token → ℕ → Type 0 where
      values_in_braces : {p q : Span} {xs : List Element} {s s1 s2 r : List Token} {d : ℕ} → IsMark mark.LeftBrace p s s1 → AreElements xs s1 s2 d → IsMark mark.RightBrace q s2 r → IsLiteral (make_literal p xs q) s r (suc d)

    -- the rest of a literal of a qualified type, behind its first name
    pub data IsSelected : Token × LiteralValue → List Token → List Token → ℕ → Type 0 where
      selected_literal : {p0 : Span} {y : Token} {v : LiteralValue} {s s1 s2 r : List Token} {d : ℕ} → IsMark mark.Dot p0 s s1 → IsName y s1 s2 → IsLiteral v s2 r d → IsSelected ((y, v)) s r d

    -- Block (Blocks)
    pub data IsBlock : Block → List Token → List Token → ℕ → Type 0 where
      braces : {p q : Span} {ts : List Stmt} {s s1 s2 r : List Token} {d : ℕ} → IsMark mark.LeftBrace p s s1 → AreStmts ts s1 s2 d → IsMark mark.RightBrace q s2 r → IsBlock (make_block p ts q) s r (suc d)

    -- behind an arrow: the type of a channel to receive from, with a comma or a closing parenthesis behind it
    pub data IsReceived : TypeExpr → List Token → List Token → ℕ → Type 0 where
      received : {p0 : Span} {x2 : Token} {t : TypeExpr} {s s1 r w2 : List Token} {d : ℕ} → IsWord word.Chan p0 s s1 → IsType t s1 r d → IsFront is_stop x2 r w2 → IsReceived t s r d

    -- Operand; h: in a header, outside brackets, where a name takes no literal (Operands)
    pub data IsHead : Bool → Expr → List Token → List Token → ℕ → Type 0 where
      basic_literal : {h : Bool} {x : Token} {s r : List Token} → IsFront is_basic x s r → IsHead h (ex.Literal x) s r 0
      header_name : {h : Bool} {x : Token} {s r : List Token} → IsName x s r → h ≡ true → IsHead h (ex.Name x) s r 0
      literal_of_selected : {h : Bool} {x : Token} {y : Token × LiteralValue} {s s1 r : List Token} {d : ℕ} → IsName x s s1 → h ≡ false → IsSelected y s1 r d → IsHead h (ex.Composite (ty.Qualified x y.0) y.1) s r d
      name : {h : Bool} {x : Token} {s r : List Token} → IsName x s r → h ≡ false → Lacks a_selected r → Lacks a_literal r → IsHead h (ex.Name x) s r 0
      literal_of_name : {h : Bool} {x : Token} {v : LiteralValue} {s s1 r : List Token} {d : ℕ} → IsName x s s1 → h ≡ false → selector_at s1 ≡ None → IsLiteral v s1 r d → IsHead h (ex.Composite (ty.Name x) v) s r d
      paren : {h : Bool} {p q : Span} {t : Expr} {s s1 s2 r : List Token} {d : ℕ} → IsMark mark.LeftParen p s s1 → IsExpr 5 false true t s1 s2 d → IsMark mark.RightParen q s2 r → IsHead h (ex.Paren p t q) s r (suc d)
      literal_of_type : {h : Bool} {x0 : Token} {t : TypeExpr} {v : LiteralValue} {s s1 r w0 : List Token} {d1 d2 : ℕ} → IsFront is_composite_start x0 s w0 → IsType t s s1 d1 → IsLiteral v s1 r d2 → IsHead h (ex.Composite t v) s r (max d1 d2)
      composite_type : {h : Bool} {x0 : Token} {t : TypeExpr} {s r w0 : List Token} {d : ℕ} → IsFront is_composite_start x0 s w0 → IsType t s r d → Lacks a_literal r → IsHead h (ex.Type t) s r d
      counted_literal : {h : Bool} {p p1 p2 : Span} {t : TypeExpr} {v : LiteralValue} {s s1 s2 s3 s4 r : List Token} {d1 d2 : ℕ} → IsMark mark.LeftBracket p s s1 → IsMark mark.Ellipsis p1 s1 s2 → IsMark mark.RightBracket p2 s2 s3 → IsType t s3 s4 d1 → IsLiteral v s4 r d2 → IsHead h (ex.Counted p t v) s r (max (suc d1) d2)
      other_type : {h : Bool} {x0 : Token} {t : TypeExpr} {s r w0 : List Token} {d : ℕ} → IsFront is_other_start x0 s w0 → IsType t s r d → IsHead h (ex.Type t) s r d
      function_literal : {h : Bool} {p : Span} {z : Signature} {b : Block} {s s1 s2 r : List Token} {d1 d2 : ℕ} → IsWord word.Func p s s1 → IsSignature z s1 s2 d1 → IsBlock b s2 r d2 → IsHead h (ex.Function p z b) s r (suc (max d1 d2))
      lone_function_type : {h : Bool} {p : Span} {z : Signature} {s s1 r : List Token} {d : ℕ} → IsWord word.Func p s s1 → IsSignature z s1 r d → Lacks a_block r → IsHead h (ex.Type (ty.Function p z)) s r (suc d)

    -- an index of a slice expression, or none
    pub data IsBound : Option Expr → List Token → List Token → ℕ → Type 0 where
      a_bound : {t : Expr} {s r : List Token} {d : ℕ} → IsExpr 5 false false t s r d → IsBound (Some t) s r d
      no_bound : {x0 : Token} {r w0 : List Token} → IsFront is_bound_end x0 r w0 → IsBound None r r 0

    -- Arguments, up to the parenthesis (Calls)
    pub data AreArgs : List Expr × Option Span → List Token → List Token → ℕ → Type 0 where
      spread : {p : Span} {t : Expr} {s s1 s2 r : List Token} {d : ℕ} → IsExpr 5 false true t s s1 d → IsMark mark.Ellipsis p s1 s2 → IsTrail mark.RightParen s2 r → AreArgs ((t ∷ [], Some p)) s r d
      last_arg : {t : Expr} {s s1 r : List Token} {d : ℕ} → IsExpr 5 false true t s s1 d → mark_at mark.Ellipsis s1 ≡ None → IsTrail mark.RightParen s1 r → AreArgs ((t ∷ [], None)) s r d
      more_args : {p1 : Span} {t : Expr} {ts : List Expr × Option Span} {s s1 s2 r : List Token} {d1 d2 : ℕ} → IsExpr 5 false true t s s1 d1 → IsMark mark.Comma p1 s1 s2 → mark_at mark.RightParen s2 ≡ None → AreArgs ts s2 r d2 → AreArgs ((t ∷ ts.0, ts.1)) s r (max d1 d2)
      no_args : {p0 : Span} {r w0 : List Token} → IsMark mark.RightParen p0 r w0 → AreArgs (([], None)) r r 0

    -- Selector, TypeAssertion, Index, Slice, Arguments (Primary expressions)
    pub data IsSuffix : Suffix → List Token → List Token → ℕ → Type 0 where
      selector : {p0 : Span} {x : Token} {s s1 r : List Token} → IsMark mark.Dot p0 s s1 → IsName x s1 r → IsSuffix (sf.Selector x) s r 0
      assertion : {p0 p1 q : Span} {t : TypeExpr} {s s1 s2 s3 r : List Token} {d : ℕ} → IsMark mark.Dot p0 s s1 → IsMark mark.LeftParen p1 s1 s2 → IsType t s2 s3 d → IsMark mark.RightParen q s3 r → IsSuffix (sf.Assertion t q) s r (suc d)
      open_slice : {p0 p1 q : Span} {b : Option Expr} {s s1 s2 s3 r : List Token} {d : ℕ} → IsMark mark.LeftBracket p0 s s1 → IsMark mark.Colon p1 s1 s2 → IsBound b s2 s3 d → IsMark mark.RightBracket q s3 r → IsSuffix (sf.Slice None b q) s r (suc d)
      open_full_slice : {p0 p1 p3 q : Span} {b : Expr} {c : Expr} {s s1 s2 s3 s4 s5 r : List Token} {d1 d2 : ℕ} → IsMark mark.LeftBracket p0 s s1 → IsMark mark.Colon p1 s1 s2 → IsExpr 5 false false b s2 s3 d1 → IsMark mark.Colon p3 s3 s4 → IsExpr 5 false false c s4 s5 d2 → IsMark mark.RightBracket q s5 r → IsSuffix (sf.FullSlice None b c q) s r (suc (max d1 d2))
      index : {p0 q : Span} {t : Expr} {s s1 s2 r : List Token} {d : ℕ} → IsMark mark.LeftBracket p0 s s1 → mark_at mark.Colon s1 ≡ None → IsExpr 5 false false t s1 s2 d → IsMark mark.RightBracket q s2 r → IsSuffix (sf.Index t q) s r (suc d)
      slice_expr : {p0 p3 q : Span} {a : Expr} {b : Option Expr} {s s1 s2 s3 s4 r : List Token} {d1 d2 : ℕ} → IsMark mark.LeftBracket p0 s s1 → mark_at mark.Colon s1 ≡ None → IsExpr 5 false false a s1 s2 d1 → IsMark mark.Colon p3 s2 s3 → IsBound b s3 s4 d2 → IsMark mark.RightBracket q s4 r → IsSuffix (sf.Slice (Some a) b q) s r (suc (max d1 d2))
      full_slice : {p0 p3 p5 q : Span} {a : Expr} {b : Expr} {c : Expr} {s s1 s2 s3 s4 s5 s6 r : List Token} {d1 d2 d3 : ℕ} → IsMark mark.LeftBracket p0 s s1 → mark_at mark.Colon s1 ≡ None → IsExpr 5 false false a s1 s2 d1 → IsMark mark.Colon p3 s2 s3 → IsExpr 5 false false b s3 s4 d2 → IsMark mark.Colon p5 s4 s5 → IsExpr 5 false false c s5 s6 d3 → IsMark mark.RightBracket q s6 r → IsSuffix (sf.FullSlice (Some a) b c q) s r (suc (max d1 (max d2 d3)))
      call : {p0 q : Span} {ts : List Expr × Option Span} {s s1 s2 r : List Token} {d : ℕ} → IsMark mark.LeftParen p0 s s1 → AreArgs ts s1 s2 d → IsMark mark.RightParen q s2 r → IsSuffix (sf.Call ts.0 ts.1 q) s r (suc d)

    -- as many as can
    pub data AreSuffixes : List Suffix → List Token → List Token → ℕ → Type 0 where
      more_suffixes : {x : Suffix} {xs : List Suffix} {s s1 r : List Token} {d1 d2 : ℕ} → IsSuffix x s s1 d1 → AreSuffixes xs s1 r d2 → AreSuffixes (x ∷ xs) s r (max d1 d2)
      no_suffixes : {r : List Token} → Lacks a_suffix r → AreSuffixes [] r r 0

    -- PrimaryExpr (Primary expressions)
    pub data IsPrimary : Bool → Expr → List Token → List Token → ℕ → Type 0 where
      primary : {h : Bool} {t : Expr} {xs : List Suffix} {s s1 r : List Token} {d1 d2 : ℕ} → IsHead h t s s1 d1 → AreSuffixes xs s1 r d2 → IsPrimary h (suffixed t xs) s r (max d1 d2)

    -- UnaryExpr; w: nothing, or nothing but stars, stands between the place and the start of an argument or a parenthesis (Operators)
    pub data IsUnary : Bool → Bool → Expr → List Token → List Token → ℕ → Type 0 where
      bare_primary : {h : Bool} {w : Bool} {t : Expr} {s r : List Token} {d : ℕ} → IsPrimary h t s r d → IsUnary h w t s r d
      signed : {h : Bool} {w : Bool} {x : Token} {t : Expr} {s s1 r : List Token} {d : ℕ} → IsFront is_sign x s s1 → IsUnary h false t s1 r d → IsUnary h w (ex.Prefixed x t) s r (suc d)
      starred : {h : Bool} {w : Bool} {p : Span} {t : Expr} {s s1 r : List Token} {d : ℕ} → IsMark mark.Star p s s1 → IsUnary h w t s1 r d → IsUnary h w (ex.Prefixed (operator mark.Star p) t) s r (suc d)
      receiver : {h : Bool} {w : Bool} {p : Span} {t : TypeExpr} {s s1 r : List Token} {d : ℕ} → IsMark mark.Arrow p s s1 → w ≡ true → IsReceived t s1 r d → IsUnary h w (ex.Type (ty.ReceiveChannel p t)) s r (suc d)
      receive_first : {h : Bool} {w : Bool} {p : Span} {t : Expr} {s s1 r : List Token} {d : ℕ} → IsMark mark.Arrow p s s1 → w ≡ true → Lacks a_received s1 → IsUnary h false t s1 r d → IsUnary h w (ex.Prefixed (operator mark.Arrow p) t) s r (suc d)
      receive : {h : Bool} {w : Bool} {p : Span} {t : Expr} {s s1 r : List Token} {d : ℕ} → IsMark mark.Arrow p s s1 → w ≡ false → IsUnary h false t s1 r d → IsUnary h w (ex.Prefixed (operator mark.Arrow p) t) s r (suc d)

    -- Expression; its operators outside brackets are of the n tightest precedences (Operators)
    pub data IsExpr : ℕ → Bool → Bool → Expr → List Token → List Token → ℕ → Type 0 where
      lone : {h w : Bool} {t : Expr} {s r : List Token} {d : ℕ} → IsUnary h w t s r d → IsExpr zero h w t s r d
      level : {m : ℕ} {h w : Bool} {t : Expr} {os : List (Token × Expr)} {s s1 r : List Token} {d1 d2 : ℕ} → IsExpr m h w t s s1 d1 → AreOperands m h os s1 r d2 → IsExpr (suc m) h w (binary t os) s r (max d1 d2)

    -- an operator of the precedence n, from 0 for the tightest, and the operand on its right
    pub data IsOperand : ℕ → Bool → Token × Expr → List Token → List Token → ℕ → Type 0 where
      operand : {m : ℕ} {h : Bool} {x : Token} {t : Expr} {s s1 r : List Token} {d : ℕ} → IsFront (is_binary m) x s s1 → IsExpr m h false t s1 r d → IsOperand m h ((x, t)) s r d

    -- as many as can
    pub data AreOperands : ℕ → Bool → List (Token × Expr) → List Token → List Token → ℕ → Type 0 where
      more_operands : {m : ℕ} {h : Bool} {x : Token × Expr} {xs : List (Token × Expr)} {s s1 r : List Token} {d1 d2 : ℕ} → IsOperand m h x s s1 d1 → AreOperands m h xs s1 r d2 → AreOperands m h (x ∷ xs) s r (max d1 d2)
      no_operands : {m : ℕ} {h : Bool} {r : List Token} → Lacks (an_operand m h) r → AreOperands m h [] r r 0

    -- Element (Composite literals)
    pub data IsValue : ElementValue → List Token → List Token → ℕ → Type 0 where
      value_expr : {t : Expr} {s r : List Token} {d : ℕ} → IsExpr 5 false false t s r d → IsValue (ev.Expr t) s r d
      value_literal : {p q : Span} {xs : List Element} {s s1 s2 r : List Token} {d : ℕ} → IsMark mark.LeftBrace p s s1 → AreElements xs s1 s2 d → IsMark mark.RightBrace q s2 r → IsValue (ev.Literal (make_literal p xs q)) s r (suc d)

    -- KeyedElement (Composite literals)
    pub data IsElement : Element → List Token → List Token → ℕ → Type 0 where
      plain_element : {a : ElementValue} {s r : List Token} {d : ℕ} → IsValue a s r d → mark_at mark.Colon r ≡ None → IsElement (el.Plain a) s r d
      keyed_element : {p1 : Span} {a : ElementValue} {b : ElementValue} {s s1 s2 r : List Token} {d1 d2 : ℕ} → IsValue a s s1 d1 → IsMark mark.Colon p1 s1 s2 → IsValue b s2 r d2 → IsElement (el.Keyed a b) s r (max d1 d2)

    -- ElementList, up to the brace (Composite literals)
    pub data AreElements : List Element → List Token → List Token → ℕ → Type 0 where
      last_element : {x : Element} {s s1 r : List Token} {d : ℕ} → IsElement x s s1 d → IsTrail mark.RightBrace s1 r → AreElements (x ∷ []) s r d
      more_elements : {p1 : Span} {x : Element} {xs : List Element} {s s1 s2 r : List Token} {d1 d2 : ℕ} → IsElement x s s1 d1 → IsMark mark.Comma p1 s1 s2 → mark_at mark.RightBrace s2 ≡ None → AreElements xs s2 r d2 → AreElements (x ∷ xs) s r (max d1 d2)
      no_elements : {p0 : Span} {r w0 : List Token} → IsMark mark.RightBrace p0 r w0 → AreElements [] r r 0

    -- ExpressionList (Expressions)
    pub data AreExprs : Bool → List Expr → List Token → List Token → ℕ → Type 0 where
      one_expr : {h : Bool} {t : Expr} {s r : List Token} {d : ℕ} → IsExpr 5 h false t s r d → mark_at mark.Comma r ≡ None → AreExprs h (t ∷ []) s r d
      more_exprs : {h : Bool} {p1 : Span} {t : Expr} {ts : List Expr} {s s1 s2 r : List Token} {d1 d2 : ℕ} → IsExpr 5 h false t s s1 d1 → IsMark mark.Comma p1 s1 s2 → AreExprs h ts s2 r d2 → AreExprs h (t ∷ ts) s r (max d1 d2)

    -- ---- Statements

    -- SimpleStmt that has tokens (Statements)
    pub data IsSimple : Bool → Simple → List Token → List Token → ℕ → Type 0 where
      assign : {h : Bool} {p : Span} {ts : List Expr} {us : List Expr} {s s1 s2 r : List Token} {d1 d2 : ℕ} → AreExprs h ts s s1 d1 → IsMark mark.Assign p s1 s2 → AreExprs h us s2 r d2 → IsSimple h (si.Assign ts p us) s r (max d1 d2)
      define : {h : Bool} {p : Span} {ts : List Expr} {us : List Expr} {s s1 s2 r : List Token} {d1 d2 : ℕ} → AreExprs h ts s s1 d1 → IsMark mark.Define p s1 s2 → AreExprs h us s2 r d2 → IsSimple h (si.Define ts p us) s r (max d1 d2)
      expression : {h : Bool} {t : Expr} {s r : List Token} {d : ℕ} → IsExpr 5 h false t s r d → front_at is_goes_on r ≡ None → IsSimple h (si.Expr t) s r d
      send : {h : Bool} {p : Span} {t : Expr} {u : Expr} {s s1 s2 r : List Token} {d1 d2 : ℕ} → IsExpr 5 h false t s s1 d1 → IsMark mark.Arrow p s1 s2 → IsExpr 5 h false u s2 r d2 → IsSimple h (si.Send t (operator mark.Arrow p) u) s r (max d1 d2)
      step : {h : Bool} {x : Token} {t : Expr} {s s1 r : List Token} {d : ℕ} → IsExpr 5 h false t s s1 d → IsFront is_step x s1 r → IsSimple h (si.Step t x) s r d
      update : {h : Bool} {x : Token} {t : Expr} {u : Expr} {s s1 s2 r : List Token} {d1 d2 : ℕ} → IsExpr 5 h false t s s1 d1 → IsFront is_update x s1 s2 → IsExpr 5 h false u s2 r d2 → IsSimple h (si.Update t x u) s r (max d1 d2)

    -- ConstSpec; i: the first one, which has values (Constant declarations)
    pub data IsConstSpec : Bool → ConstSpec → List Token → List Token → ℕ → Type 0 where
      implicit : {i : Bool} {x1 : Token} {xs : List Token} {s r w1 : List Token} {d : ℕ} → AreNames xs s r d → IsFront is_spec_end x1 r w1 → i ≡ false → IsConstSpec i (cns.Implicit xs) s r d
      untyped : {i : Bool} {p1 : Span} {xs : List Token} {ts : List Expr} {s s1 s2 r : List Token} {d1 d2 : ℕ} → AreNames xs s s1 d1 → IsMark mark.Assign p1 s1 s2 → AreExprs false ts s2 r d2 → IsConstSpec i (cns.Untyped xs ts) s r (max d1 d2)
      typed_const : {i : Bool} {p4 : Span} {xs : List Token} {t : TypeExpr} {ts : List Expr} {s s1 s2 s3 r : List Token} {d1 d2 d3 : ℕ} → AreNames xs s s1 d1 → front_at is_spec_end s1 ≡ None → mark_at mark.Assign s1 ≡ None → IsType t s1 s2 d2 → IsMark mark.Assign p4 s2 s3 → AreExprs false ts s3 r d3 → IsConstSpec i (cns.Typed xs t ts) s r (max d1 (max d2 d3))

    -- up to the parenthesis
    pub data AreConstSpecs : Bool → List ConstSpec → List Token → List Token → ℕ → Type 0 where
      last_const : {i : Bool} {p1 : Span} {c : ConstSpec} {s r w1 : List Token} {d : ℕ} → IsConstSpec i c s r d → IsMark mark.RightParen p1 r w1 → AreConstSpecs i (c ∷ []) s r d
      more_consts : {i : Bool} {x : Token} {c : ConstSpec} {cs : List ConstSpec} {s s1 s2 r : List Token} {d1 d2 : ℕ} → IsConstSpec i c s s1 d1 → IsFront is_semi x s1 s2 → AreConstSpecs false cs s2 r d2 → AreConstSpecs i (c ∷ cs) s r (max d1 d2)
      no_consts : {i : Bool} {p0 : Span} {r w0 : List Token} → IsMark mark.RightParen p0 r w0 → AreConstSpecs i [] r r 0

    -- TypeSpec (Type declarations)
    pub data IsTypeSpec : TypeSpec → List Token → List Token → ℕ → Type 0 where
      definition : {x : Token} {t : TypeExpr} {s s1 r : List Token} {d : ℕ} → IsName x s s1 → mark_at mark.Assign s1 ≡ None → IsType t s1 r d → IsTypeSpec (tys.Definition x t) s r d
      alias : {p1 : Span} {x : Token} {t : TypeExpr} {s s1 s2 r : List Token} {d : ℕ} → IsName x s s1 → IsMark mark.Assign p1 s1 s2 → IsType t s2 r d → IsTypeSpec (tys.Alias x t) s r d

    pub data AreTypeSpecs : List TypeSpec → List Token → List Token → ℕ → Type 0 where
      last_type_spec : {p1 : Span} {c : TypeSpec} {s r w1 : List Token} {d : ℕ} → IsTypeSpec c s r d → IsMark mark.RightParen p1 r w1 → AreTypeSpecs (c ∷ []) s r d
      more_type_specs : {x : Token} {c : TypeSpec} {cs : List TypeSpec} {s s1 s2 r : List Token} {d1 d2 : ℕ} → IsTypeSpec c s s1 d1 → IsFront is_semi x s1 s2 → AreTypeSpecs cs s2 r d2 → AreTypeSpecs (c ∷ cs) s r (max d1 d2)
      no_type_specs : {p0 : Span} {r w0 : List Token} → IsMark mark.RightParen p0 r w0 → AreTypeSpecs [] r r 0

    -- VarSpec (Variable declarations)
    pub data IsVarSpec : VarSpec → List Token → List Token → ℕ → Type 0 where
      var_values : {p1 : Span} {xs : List Token} {ts : List Expr} {s s1 s2 r : List Token} {d1 d2 : ℕ} → AreNames xs s s1 d1 → IsMark mark.Assign p1 s1 s2 → AreExprs false ts s2 r d2 → IsVarSpec (vs.Values xs ts) s r (max d1 d2)
      typed_var : {xs : List Token} {t : TypeExpr} {s s1 r : List Token} {d1 d2 : ℕ} → AreNames xs s s1 d1 → mark_at mark.Assign s1 ≡ None → IsType t s1 r d2 → mark_at mark.Assign r ≡ None → IsVarSpec (vs.Typed xs t) s r (max d1 d2)
      typed_values : {p3 : Span} {xs : List Token} {t : TypeExpr} {ts : List Expr} {s s1 s2 s3 r : List Token} {d1 d2 d3 : ℕ} → AreNames xs s s1 d1 → mark_at mark.Assign s1 ≡ None → IsType t s1 s2 d2 → IsMark mark.Assign p3 s2 s3 → AreExprs false ts s3 r d3 → IsVarSpec (vs.TypedValues xs t ts) s r (max d1 (max d2 d3))

    pub data AreVarSpecs : List VarSpec → List Token → List Token → ℕ → Type 0 where
      last_var : {p1 : Span} {c : VarSpec} {s r w1 : List Token} {d : ℕ} → IsVarSpec c s r d → IsMark mark.RightParen p1 r w1 → AreVarSpecs (c ∷ []) s r d
      more_vars : {x : Token} {c : VarSpec} {cs : List VarSpec} {s s1 s2 r : List Token} {d1 d2 : ℕ} → IsVarSpec c s s1 d1 → IsFront is_semi x s1 s2 → AreVarSpecs cs s2 r d2 → AreVarSpecs (c ∷ cs) s r (max d1 d2)
      no_vars : {p0 : Span} {r w0 : List Token} → IsMark mark.RightParen p0 r w0 → AreVarSpecs [] r r 0

    -- Declaration (Declarations and scope)
    pub data IsDecl : Decl → List Token → List Token → ℕ → Type 0 where
      const_decl : {p : Span} {c : ConstSpec} {s s1 r : List Token} {d : ℕ} → IsWord word.Const p s s1 → mark_at mark.LeftParen s1 ≡ None → IsConstSpec true c s1 r d → IsDecl (de.Const p c) s r d
      const_group : {p p1 p3 : Span} {cs : List ConstSpec} {s s1 s2 s3 r : List Token} {d : ℕ} → IsWord word.Const p s s1 → IsMark mark.LeftParen p1 s1 s2 → AreConstSpecs true cs s2 s3 d → IsMark mark.RightParen p3 s3 r → IsDecl (de.ConstGroup p cs) s r (suc d)
      type_decl : {p : Span} {c : TypeSpec} {s s1 r : List Token} {d : ℕ} → IsWord word.«Type» p s s1 → mark_at mark.LeftParen s1 ≡ None → IsTypeSpec c s1 r d → IsDecl (de.«Type» p c) s r d
      type_group : {p p1 p3 : Span} {cs : List TypeSpec} {s s1 s2 s3 r : List Token} {d : ℕ} → IsWord word.«Type» p s s1 → IsMark mark.LeftParen p1 s1 s2 → AreTypeSpecs cs s2 s3 d → IsMark mark.RightParen p3 s3 r → IsDecl (de.TypeGroup p cs) s r (suc d)
      var_decl : {p : Span} {c : VarSpec} {s s1 r : List Token} {d : ℕ} → IsWord word.Var p s s1 → mark_at mark.LeftParen s1 ≡ None → IsVarSpec c s1 r d → IsDecl (de.Var p c) s r d
      var_group : {p p1 p3 : Span} {cs : List VarSpec} {s s1 s2 s3 r : List Token} {d : ℕ} → IsWord word.Var p s s1 → IsMark mark.LeftParen p1 s1 s2 → AreVarSpecs cs s2 s3 d → IsMark mark.RightParen p3 s3 r → IsDecl (de.VarGroup p cs) s r (suc d)

    -- the values of a return statement (Return statements)
    pub data AreValues : List Expr → List Token → List Token → ℕ → Type 0 where
      some_values : {ts : List Expr} {s r : List Token} {d : ℕ} → AreExprs false ts s r d → AreValues ts s r d
      no_values : {x0 : Token} {r w0 : List Token} → IsFront is_stmt_end x0 r w0 → AreValues [] r r 0

    -- the label of a break or continue statement (Break statements)
    pub data IsTarget : Option Token → List Token → List Token → ℕ → Type 0 where
      a_target : {x : Token} {s r : List Token} → IsName x s r → IsTarget (Some x) s r 0
      no_target : {x0 : Token} {r w0 : List Token} → IsFront is_stmt_end x0 r w0 → IsTarget None r r 0

    -- behind an if (If statements)
    pub data AreArms : List Arm × Option Block → List Token → List Token → ℕ → Type 0 where
      last_arm : {a : Arm} {s r : List Token} {d : ℕ} → IsArm a s r d → word_at word.Else r ≡ None → AreArms ((a ∷ [], None)) s r d
      more_arms : {p1 p2 : Span} {a : Arm} {m : List Arm × Option Block} {s s1 s2 s3 r : List Token} {d1 d2 : ℕ} → IsArm a s s1 d1 → IsWord word.Else p1 s1 s2 → IsWord word.If p2 s2 s3 → AreArms m s3 r d2 → AreArms ((a ∷ m.0, m.1)) s r (max d1 d2)
      last_block : {p1 : Span} {a : Arm} {b : Block} {s s1 s2 r : List Token} {d1 d2 : ℕ} → IsArm a s s1 d1 → IsWord word.Else p1 s1 s2 → word_at word.If s2 ≡ None → IsBlock b s2 r d2 → AreArms ((a ∷ [], Some b)) s r (max d1 d2)

    pub data IsArm : Arm → List Token → List Token → ℕ → Type 0 where
      header_arm : {x : Token} {i : Simple} {c : Expr} {b : Block} {s s1 s2 s3 r : List Token} {d1 d2 d3 : ℕ} → IsSimple true i s s1 d1 → IsFront is_semi x s1 s2 → IsExpr 5 true false c s2 s3 d2 → IsBlock b s3 r d3 → IsArm (make_arm i c b) s r (max d1 (max d2 d3))
      bare_arm : {p1 : Span} {c : Expr} {b : Block} {s s1 r w1 : List Token} {d1 d2 : ℕ} → IsExpr 5 true false c s s1 d1 → IsMark mark.LeftBrace p1 s1 w1 → IsBlock b s1 r d2 → IsArm (make_arm si.Empty c b) s r (max d1 d2)
      empty_arm : {x : Token} {c : Expr} {b : Block} {s s1 s2 r : List Token} {d1 d2 : ℕ} → IsFront is_semi x s s1 → IsExpr 5 true false c s1 s2 d1 → IsBlock b s2 r d2 → IsArm (make_arm si.Empty c b) s r (max d1 d2)

    -- what a switch compares, up to the brace (Switch statements)
    pub data IsTagValue : Option Expr → List Token → List Token → ℕ → Type 0 where
      a_tag_value : {t : Expr} {s r : List Token} {d : ℕ} → IsExpr 5 true false t s r d → IsTagValue (Some t) s r d
      no_tag_value : {p0 : Span} {r w0 : List Token} → IsMark mark.LeftBrace p0 r w0 → IsTagValue None r r 0

    -- TypeSwitchGuard (Switch statements)
    pub data IsGuard : Option (Token × Span) × Expr × Span → List Token → List Token → ℕ → Type 0 where
      plain_guard : {p2 p3 p p5 : Span} {t : Expr} {s s1 s2 s3 s4 r : List Token} {d : ℕ} → defined_at s ≡ None → IsPrimary true t s s1 d → IsMark mark.Dot p2 s1 s2 → IsMark mark.LeftParen p3 s2 s3 → IsWord word.«Type» p s3 s4 → IsMark mark.RightParen p5 s4 r → IsGuard ((None, t, p)) s r (max d 1)
      named_guard : {p1 p3 p4 p p6 : Span} {x : Token} {t : Expr} {s s1 s2 s3 s4 s5 s6 r : List Token} {d : ℕ} → IsName x s s1 → IsMark mark.Define p1 s1 s2 → IsPrimary true t s2 s3 d → IsMark mark.Dot p3 s3 s4 → IsMark mark.LeftParen p4 s4 s5 → IsWord word.«Type» p s5 s6 → IsMark mark.RightParen p6 s6 r → IsGuard ((Some (x, p1), t, p)) s r (max d 1)

    -- ExprCaseClause, up to the brace (Switch statements)
    pub data AreClauses : List Clause → List Token → List Token → ℕ → Type 0 where
      a_case : {p p2 : Span} {es : List Expr} {ts : List Stmt} {cs : List Clause} {s s1 s2 s3 s4 r : List Token} {d1 d2 d3 : ℕ} → IsWord word.Case p s s1 → AreExprs false es s1 s2 d1 → IsMark mark.Colon p2 s2 s3 → AreStmts ts s3 s4 d2 → AreClauses cs s4 r d3 → AreClauses (cl.Case p es ts ∷ cs) s r (max d1 (max d2 d3))
      a_default : {p p1 : Span} {ts : List Stmt} {cs : List Clause} {s s1 s2 s3 r : List Token} {d1 d2 : ℕ} → IsWord word.Default p s s1 → IsMark mark.Colon p1 s1 s2 → AreStmts ts s2 s3 d1 → AreClauses cs s3 r d2 → AreClauses (cl.Default p ts ∷ cs) s r (max d1 d2)
      no_clauses : {p0 : Span} {r w0 : List Token} → IsMark mark.RightBrace p0 r w0 → AreClauses [] r r 0

    -- TypeList (Switch statements)
    pub data AreTypes : List TypeExpr → List Token → List Token → ℕ → Type 0 where
      one_type : {t : TypeExpr} {s r : List Token} {d : ℕ} → IsType t s r d → mark_at mark.Comma r ≡ None → AreTypes (t ∷ []) s r d
      more_cases : {p1 : Span} {t : TypeExpr} {ts : List TypeExpr} {s s1 s2 r : List Token} {d1 d2 : ℕ} → IsType t s s1 d1 → IsMark mark.Comma p1 s1 s2 → AreTypes ts s2 r d2 → AreTypes (t ∷ ts) s r (max d1 d2)

    -- TypeCaseClause, up to the brace (Switch statements)
    pub data AreTypeClauses : List TypeClause → List Token → List Token → ℕ → Type 0 where
      a_type_case : {p p2 : Span} {us : List TypeExpr} {ts : List Stmt} {cs : List TypeClause} {s s1 s2 s3 s4 r : List Token} {d1 d2 d3 : ℕ} → IsWord word.Case p s s1 → AreTypes us s1 s2 d1 → IsMark mark.Colon p2 s2 s3 → AreStmts ts s3 s4 d2 → AreTypeClauses cs s4 r d3 → AreTypeClauses (tc.Case p us ts ∷ cs) s r (max d1 (max d2 d3))
      a_type_default : {p p1 : Span} {ts : List Stmt} {cs : List TypeClause} {s s1 s2 s3 r : List Token} {d1 d2 : ℕ} → IsWord word.Default p s s1 → IsMark mark.Colon p1 s1 s2 → AreStmts ts s2 s3 d1 → AreTypeClauses cs s3 r d2 → AreTypeClauses (tc.Default p ts ∷ cs) s r (max d1 d2)
      no_type_clauses : {p0 : Span} {r w0 : List Token} → IsMark mark.RightBrace p0 r w0 → AreTypeClauses [] r r 0

    -- CommCase (Select statements)
    pub data IsComm : Comm → List Token → List Token → ℕ → Type 0 where
      comm_assign : {p : Span} {ts : List Expr} {u : Expr} {s s1 s2 r : List Token} {d1 d2 : ℕ} → AreExprs false ts s s1 d1 → IsMark mark.Assign p s1 s2 → IsExpr 5 false false u s2 r d2 → IsComm (cm.Assign ts p u) s r (max d1 d2)
      comm_define : {p : Span} {ts : List Expr} {u : Expr} {s s1 s2 r : List Token} {d1 d2 : ℕ} → AreExprs false ts s s1 d1 → IsMark mark.Define p s1 s2 → IsExpr 5 false false u s2 r d2 → IsComm (cm.Define ts p u) s r (max d1 d2)
      comm_send : {p : Span} {t : Expr} {u : Expr} {s s1 s2 r : List Token} {d1 d2 : ℕ} → IsExpr 5 false false t s s1 d1 → IsMark mark.Arrow p s1 s2 → IsExpr 5 false false u s2 r d2 → IsComm (cm.Send t (operator mark.Arrow p) u) s r (max d1 d2)
      comm_receive : {p1 : Span} {t : Expr} {s r w1 : List Token} {d : ℕ} → IsExpr 5 false false t s r d → IsMark mark.Colon p1 r w1 → IsComm (cm.Receive t) s r d

    -- CommClause, up to the brace (Select statements)
    pub data AreCommClauses : List CommClause → List Token → List Token → ℕ → Type 0 where
      a_comm : {p p2 : Span} {c : Comm} {ts : List Stmt} {cs : List CommClause} {s s1 s2 s3 s4 r : List Token} {d1 d2 d3 : ℕ} → IsWord word.Case p s s1 → IsComm c s1 s2 d1 → IsMark mark.Colon p2 s2 s3 → AreStmts ts s3 s4 d2 → AreCommClauses cs s4 r d3 → AreCommClauses (co.Case p c ts ∷ cs) s r (max d1 (max d2 d3))
      a_comm_default : {p p1 : Span} {ts : List Stmt} {cs : List CommClause} {s s1 s2 s3 r : List Token} {d1 d2 : ℕ} → IsWord word.Default p s s1 → IsMark mark.Colon p1 s1 s2 → AreStmts ts s2 s3 d1 → AreCommClauses cs s3 r d2 → AreCommClauses (co.Default p ts ∷ cs) s r (max d1 d2)
      no_comms : {p0 : Span} {r w0 : List Token} → IsMark mark.RightBrace p0 r w0 → AreCommClauses [] r r 0

    -- the init statement of a for clause with its semicolon (For statements)
    pub data IsHeader : Simple → List Token → List Token → ℕ → Type 0 where
      init_header : {x : Token} {i : Simple} {s s1 r : List Token} {d : ℕ} → IsSimple true i s s1 d → IsFront is_semi x s1 r → IsHeader i s r d
      no_header : {x : Token} {s r : List Token} → IsFront is_semi x s r → IsHeader si.Empty s r 0

    -- the condition of a for clause (For statements)
    pub data IsCondition : Option Expr → List Token → List Token → ℕ → Type 0 where
      a_condition : {t : Expr} {s r : List Token} {d : ℕ} → IsExpr 5 true false t s r d → IsCondition (Some t) s r d
      no_condition : {x0 : Token} {r w0 : List Token} → IsFront is_semi x0 r w0 → IsCondition None r r 0

    -- the post statement of a for clause (For statements)
    pub data IsPost : Simple → List Token → List Token → ℕ → Type 0 where
      a_post : {i : Simple} {s r : List Token} {d : ℕ} → IsSimple true i s r d → is_define i ≡ false → IsPost i s r d
      no_post : {p0 : Span} {r w0 : List Token} → IsMark mark.LeftBrace p0 r w0 → IsPost si.Empty r r 0

    -- RangeClause up to its keyword (For statements)
    pub data IsRangeLeft : RangeLeft → List Token → List Token → ℕ → Type 0 where
      range_assign : {p p2 : Span} {ts : List Expr} {s s1 s2 r : List Token} {d : ℕ} → AreExprs true ts s s1 d → IsMark mark.Assign p s1 s2 → IsWord word.Range p2 s2 r → IsRangeLeft (rl.Assign ts p) s r d
      range_define : {p p2 : Span} {ts : List Expr} {s s1 s2 r : List Token} {d : ℕ} → AreExprs true ts s s1 d → IsMark mark.Define p s1 s2 → IsWord word.Range p2 s2 r → IsRangeLeft (rl.Define ts p) s r d
      no_range_left : {p0 : Span} {s r : List Token} → IsWord word.Range p0 s r → IsRangeLeft rl.Absent s r 0

    -- Statement that has tokens (Statements)
    pub data IsStmt : Stmt → List Token → List Token → ℕ → Type 0 where
      simple_stmt : {t : Simple} {s r : List Token} {d : ℕ} → label_at s ≡ None → IsSimple false t s r d → IsStmt (st.Simple t) s r d
      declaration_stmt : {x0 : Token} {x : Decl} {s r w0 : List Token} {d : ℕ} → IsFront is_decl_start x0 s w0 → IsDecl x s r d → IsStmt (st.Declaration x) s r d
      bare_label : {p1 : Span} {x x2 : Token} {s s1 r w2 : List Token} → IsName x s s1 → IsMark mark.Colon p1 s1 r → IsFront is_stmt_end x2 r w2 → IsStmt (st.Labeled x (st.Simple si.Empty)) s r 1
      labeled : {p1 : Span} {x : Token} {t : Stmt} {s s1 s2 r : List Token} {d : ℕ} → IsName x s s1 → IsMark mark.Colon p1 s1 s2 → front_at is_stmt_end s2 ≡ None → IsStmt t s2 r d → IsStmt (st.Labeled x t) s r (suc d)
      go : {p : Span} {t : Expr} {s s1 r : List Token} {d : ℕ} → IsWord word.Go p s s1 → IsExpr 5 false false t s1 r d → IsStmt (st.Go p t) s r d
      defer : {p : Span} {t : Expr} {s s1 r : List Token} {d : ℕ} → IsWord word.Defer p s s1 → IsExpr 5 false false t s1 r d → IsStmt (st.Defer p t) s r d
      return : {p : Span} {ts : List Expr} {s s1 r : List Token} {d : ℕ} → IsWord word.Return p s s1 → AreValues ts s1 r d → IsStmt (st.Return p ts) s r d
      break : {p : Span} {o : Option Token} {s s1 r : List Token} {d : ℕ} → IsWord word.Break p s s1 → IsTarget o s1 r d → IsStmt (st.Break p o) s r d
      continue : {p : Span} {o : Option Token} {s s1 r : List Token} {d : ℕ} → IsWord word.Continue p s s1 → IsTarget o s1 r d → IsStmt (st.Continue p o) s r d
      goto : {p : Span} {x : Token} {s s1 r : List Token} → IsWord word.Goto p s s1 → IsName x s1 r → IsStmt (st.Goto p x) s r 0
      fallthrough : {p : Span} {s r : List Token} → IsWord word.Fallthrough p s r → IsStmt (st.Fallthrough p) s r 0
      block_stmt : {p q : Span} {ts : List Stmt} {s s1 s2 r : List Token} {d : ℕ} → IsMark mark.LeftBrace p s s1 → AreStmts ts s1 s2 d → IsMark mark.RightBrace q s2 r → IsStmt (st.Block (make_block p ts q)) s r (suc d)
      if_stmt : {p : Span} {a : List Arm × Option Block} {s s1 r : List Token} {d : ℕ} → IsWord word.If p s s1 → AreArms a s1 r d → IsStmt (st.If p a.0 a.1) s r d
      header_type_switch : {p p3 q : Span} {i : Simple} {y : Option (Token × Span) × Expr × Span} {cs : List TypeClause} {s s1 s2 s3 s4 s5 r : List Token} {d1 d2 d3 : ℕ} → IsWord word.Switch p s s1 → IsHeader i s1 s2 d1 → IsGuard y s2 s3 d2 → IsMark mark.LeftBrace p3 s3 s4 → AreTypeClauses cs s4 s5 d3 → IsMark mark.RightBrace q s5 r → IsStmt (st.TypeSwitch p i y.0 y.1 y.2 cs q) s r (max d1 (max d2 (suc d3)))
      type_switch : {p p3 q : Span} {y : Option (Token × Span) × Expr × Span} {cs : List TypeClause} {s s1 s2 s3 s4 r : List Token} {d1 d2 : ℕ} → IsWord word.Switch p s s1 → Lacks a_header s1 → IsGuard y s1 s2 d1 → IsMark mark.LeftBrace p3 s2 s3 → AreTypeClauses cs s3 s4 d2 → IsMark mark.RightBrace q s4 r → IsStmt (st.TypeSwitch p si.Empty y.0 y.1 y.2 cs q) s r (max d1 (suc d2))
      header_switch : {p p4 q : Span} {i : Simple} {o : Option Expr} {cs : List Clause} {s s1 s2 s3 s4 s5 r : List Token} {d1 d2 d3 : ℕ} → IsWord word.Switch p s s1 → IsHeader i s1 s2 d1 → Lacks a_guard s2 → IsTagValue o s2 s3 d2 → IsMark mark.LeftBrace p4 s3 s4 → AreClauses cs s4 s5 d3 → IsMark mark.RightBrace q s5 r → IsStmt (st.Switch p i o cs q) s r (max d1 (max d2 (suc d3)))
      switch : {p p4 q : Span} {o : Option Expr} {cs : List Clause} {s s1 s2 s3 s4 r : List Token} {d1 d2 : ℕ} → IsWord word.Switch p s s1 → Lacks a_header s1 → Lacks a_guard s1 → IsTagValue o s1 s2 d1 → IsMark mark.LeftBrace p4 s2 s3 → AreClauses cs s3 s4 d2 → IsMark mark.RightBrace q s4 r → IsStmt (st.Switch p si.Empty o cs q) s r (max d1 (suc d2))
      select : {p p1 q : Span} {cs : List CommClause} {s s1 s2 s3 r : List Token} {d : ℕ} → IsWord word.Select p s s1 → IsMark mark.LeftBrace p1 s1 s2 → AreCommClauses cs s2 s3 d → IsMark mark.RightBrace q s3 r → IsStmt (st.Select p cs q) s r (suc d)
      endless : {p p1 : Span} {b : Block} {s s1 r w1 : List Token} {d : ℕ} → IsWord word.For p s s1 → IsMark mark.LeftBrace p1 s1 w1 → IsBlock b s1 r d → IsStmt (st.While p None b) s r d
      range : {p : Span} {x : RangeLeft} {t : Expr} {b : Block} {s s1 s2 s3 r : List Token} {d1 d2 d3 : ℕ} → IsWord word.For p s s1 → mark_at mark.LeftBrace s1 ≡ None → IsRangeLeft x s1 s2 d1 → IsExpr 5 true false t s2 s3 d2 → IsBlock b s3 r d3 → IsStmt (st.Range p x t b) s r (max d1 (max d2 d3))
      loop : {p : Span} {y : Token} {i : Simple} {o : Option Expr} {j : Simple} {b : Block} {s s1 s2 s3 s4 s5 r : List Token} {d1 d2 d3 d4 : ℕ} → IsWord word.For p s s1 → mark_at mark.LeftBrace s1 ≡ None → Lacks a_range s1 → IsHeader i s1 s2 d1 → IsCondition o s2 s3 d2 → IsFront is_semi y s3 s4 → IsPost j s4 s5 d3 → IsBlock b s5 r d4 → IsStmt (st.Loop p i o j b) s r (max d1 (max d2 (max d3 d4)))
      while : {p : Span} {t : Expr} {b : Block} {s s1 s2 r : List Token} {d1 d2 : ℕ} → IsWord word.For p s s1 → mark_at mark.LeftBrace s1 ≡ None → Lacks a_range s1 → Lacks a_header s1 → IsExpr 5 true false t s1 s2 d1 → IsBlock b s2 r d2 → IsStmt (st.While p (Some t) b) s r (max d1 d2)

    -- StatementList, up to what ends it; its last semicolon may be absent before a brace (Blocks)
    pub data AreStmts : List Stmt → List Token → List Token → ℕ → Type 0 where
      last_stmt : {p1 : Span} {t : Stmt} {s r w1 : List Token} {d : ℕ} → IsStmt t s r d → IsMark mark.RightBrace p1 r w1 → AreStmts (t ∷ []) s r d
      more_stmts : {x : Token} {t : Stmt} {ts : List Stmt} {s s1 s2 r : List Token} {d1 d2 : ℕ} → IsStmt t s s1 d1 → IsFront is_semi x s1 s2 → AreStmts ts s2 r d2 → AreStmts (t ∷ ts) s r (max d1 d2)
      empty_stmt : {x : Token} {ts : List Stmt} {s s1 r : List Token} {d : ℕ} → IsFront is_semi x s s1 → AreStmts ts s1 r d → AreStmts (st.Simple si.Empty ∷ ts) s r d
      no_stmts : {x0 : Token} {r w0 : List Token} → IsFront is_list_end x0 r w0 → AreStmts [] r r 0

    -- ---- Chunks

    -- ImportSpec (Import declarations)
    pub data IsImportSpec : ImportSpec → List Token → List Token → ℕ → Type 0 where
      plain_import : {x : Token} {s r : List Token} → IsText x s r → IsImportSpec (im.Plain x) s r 0
      dot_import : {p : Span} {x : Token} {s s1 r : List Token} → IsMark mark.Dot p s s1 → IsText x s1 r → IsImportSpec (im.Dot p x) s r 0
      named_import : {x y : Token} {s s1 r : List Token} → IsName x s s1 → IsText y s1 r → IsImportSpec (im.Named x y) s r 0

    pub data AreImportSpecs : List ImportSpec → List Token → List Token → ℕ → Type 0 where
      last_import : {p1 : Span} {c : ImportSpec} {s r w1 : List Token} {d : ℕ} → IsImportSpec c s r d → IsMark mark.RightParen p1 r w1 → AreImportSpecs (c ∷ []) s r d
      more_imports : {x : Token} {c : ImportSpec} {cs : List ImportSpec} {s s1 s2 r : List Token} {d1 d2 : ℕ} → IsImportSpec c s s1 d1 → IsFront is_semi x s1 s2 → AreImportSpecs cs s2 r d2 → AreImportSpecs (c ∷ cs) s r (max d1 d2)
      no_imports : {p0 : Span} {r w0 : List Token} → IsMark mark.RightParen p0 r w0 → AreImportSpecs [] r r 0

    -- FunctionBody (Function declarations)
    pub data IsBody : Option Block → List Token → List Token → ℕ → Type 0 where
      a_body : {b : Block} {s r : List Token} {d : ℕ} → IsBlock b s r d → IsBody (Some b) s r d
      no_body : {x0 : Token} {r w0 : List Token} → IsFront is_semi x0 r w0 → IsBody None r r 0

    -- TopLevelDecl; a receiver is one parameter with at most one name (Declarations and scope)
    pub data IsTop : Top → List Token → List Token → ℕ → Type 0 where
      declaration : {x0 : Token} {x : Decl} {s r w0 : List Token} {d : ℕ} → IsFront is_decl_start x0 s w0 → IsDecl x s r d → IsTop (tp.Declaration x) s r d
      function : {p : Span} {x : Token} {z : Signature} {o : Option Block} {s s1 s2 s3 r : List Token} {d1 d2 : ℕ} → IsWord word.Func p s s1 → IsName x s1 s2 → IsSignature z s2 s3 d1 → IsBody o s3 r d2 → IsTop (tp.Function p x z o) s r (max d1 d2)
      method_decl : {p p1 : Span} {x : Token} {ps : Parameters} {z : Signature} {o : Option Block} {s s1 s2 s3 s4 r w1 : List Token} {d1 d2 d3 : ℕ} → IsWord word.Func p s s1 → IsMark mark.LeftParen p1 s1 w1 → AreParams false ps s1 s2 d1 → is_receiver ps ≡ true → IsName x s2 s3 → IsSignature z s3 s4 d2 → IsBody o s4 r d3 → IsTop (tp.Method p ps x z o) s r (max d1 (max d2 d3))

    -- a part of a source file with the semicolon that ends it (Source file organization)
    pub data IsChunk : Chunk → List Token → List Token → ℕ → Type 0 where
      top_chunk : {y : Token} {t : Top} {s s1 r : List Token} {d : ℕ} → IsTop t s s1 d → IsFront is_semi y s1 r → IsChunk (ch.Top t) s r d
      package_clause : {p : Span} {x y : Token} {s s1 s2 r : List Token} → IsWord word.Package p s s1 → IsName x s1 s2 → IsFront is_semi y s2 r → IsChunk (ch.Package x) s r 0
      import_decl : {p : Span} {y : Token} {i : ImportSpec} {s s1 s2 r : List Token} {d : ℕ} → IsWord word.Import p s s1 → mark_at mark.LeftParen s1 ≡ None → IsImportSpec i s1 s2 d → IsFront is_semi y s2 r → IsChunk (ch.Import (i ∷ [])) s r d
      import_group : {p p1 p3 : Span} {y : Token} {cs : List ImportSpec} {s s1 s2 s3 s4 r : List Token} {d : ℕ} → IsWord word.Import p s s1 → IsMark mark.LeftParen p1 s1 s2 → AreImportSpecs cs s2 s3 d → IsMark mark.RightParen p3 s3 s4 → IsFront is_semi y s4 r → IsChunk (ch.Import cs) s r (suc d)

-- the part stands at the front of s, which has fewer than n tokens, and r follows it
abbrev pub StandsBelow : ℕ → Part → List Token → List Token → Type 0
StandsBelow zero p s r = ⊥
StandsBelow (suc n) a_type s r = (t : TypeExpr) × (d : ℕ) × IsType (StandsBelow n) t s r d
StandsBelow (suc n) (a_named v) s r = (t : List Parameter) × (d : ℕ) × AreNamed (StandsBelow n) v t s r d
StandsBelow (suc n) a_literal s r = (t : LiteralValue) × (d : ℕ) × IsLiteral (StandsBelow n) t s r d
StandsBelow (suc n) a_selected s r = (t : Token × LiteralValue) × (d : ℕ) × IsSelected (StandsBelow n) t s r d
StandsBelow (suc n) a_block s r = (t : Block) × (d : ℕ) × IsBlock (StandsBelow n) t s r d
StandsBelow (suc n) a_received s r = (t : TypeExpr) × (d : ℕ) × IsReceived (StandsBelow n) t s r d
StandsBelow (suc n) a_suffix s r = (t : Suffix) × (d : ℕ) × IsSuffix (StandsBelow n) t s r d
StandsBelow (suc n) (an_operand m h) s r = (t : Token × Expr) × (d : ℕ) × IsOperand (StandsBelow n) m h t s r d
StandsBelow (suc n) a_guard s r = (t : Option (Token × Span) × Expr × Span) × (d : ℕ) × IsGuard (StandsBelow n) t s r d
StandsBelow (suc n) a_header s r = (t : Simple) × (d : ℕ) × IsHeader (StandsBelow n) t s r d
StandsBelow (suc n) a_range s r = (t : RangeLeft) × (d : ℕ) × IsRangeLeft (StandsBelow n) t s r d

-- the trees at a place
abbrev pub IsTypeAt : TypeExpr → List Token → List Token → ℕ → Type 0
IsTypeAt t s r d = IsType (StandsBelow (length s)) t s r d

abbrev pub IsExprAt : Bool → Expr → List Token → List Token → ℕ → Type 0
IsExprAt h t s r d = IsExpr (StandsBelow (length s)) 5 h false t s r d

abbrev pub IsBlockAt : Block → List Token → List Token → ℕ → Type 0
IsBlockAt t s r d = IsBlock (StandsBelow (length s)) t s r d

abbrev pub IsChunkAt : Chunk → List Token → List Token → ℕ → Type 0
IsChunkAt t s r d = IsChunk (StandsBelow (length s)) t s r d
