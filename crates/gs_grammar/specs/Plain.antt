-- The plain grammar: as the grammar, but no rule asks what stands behind it, or at its place, so as to decide between itself
-- and another rule. Suffixes, operands, names, elements, specs, fields, members, clauses and statements may stop anywhere, and
-- of two forms at a place either may be taken.
--
-- Kept is what the language itself says:
-- of types, that a type name takes the selector that follows it, that `chan` takes the arrow that follows it, and that behind
-- parameters a parenthesis begins results and a type that stands there is the result;
-- of expressions, that a name takes the literal that stands behind it, but in a header none, that the types which are
-- expressions begin with a token of their own and take the literal that stands behind them, that `func` with a signature takes
-- the block that stands behind it, and that at the start of an argument or a parenthesis `<-` begins the type of a channel
-- where a comma or a closing parenthesis ends that;
-- of declarations, that the first const spec has values, that dots stand before the last parameter alone, with at
-- most one name and not in results, and that a receiver is one parameter with at most one name;
-- of statements, that one without a semicolon behind it stands only before a closing brace, and that the last part of a for
-- clause is no `:=`.
-- What such a rule asks for at a later place is a part of the plain grammar itself.
use Rattle.std.specs.Prelude.{◌≡◌, ℕ, zero, suc, max, Bool, true, false, List, [], ◌∷◌, length, Option, Some, None}
use Rattle.gs_syntax.specs.declared.token.Span.{Span}
use Rattle.gs_syntax.specs.declared.token.Token.{Token}
use Rattle.gs_syntax.specs.declared.token.Operator.TheVariants as mark
use Rattle.gs_syntax.specs.declared.token.Keyword.TheVariants as word
use Rattle.gs_grammar.specs.declared.trees.Chunk.{Chunk}
use Rattle.gs_grammar.specs.declared.trees.Chunk.TheVariants as ch
use Rattle.gs_grammar.specs.declared.trees.ImportSpec.{ImportSpec}
use Rattle.gs_grammar.specs.declared.trees.ImportSpec.TheVariants as im
use Rattle.gs_grammar.specs.declared.trees.Top.{Top}
use Rattle.gs_grammar.specs.declared.trees.Top.TheVariants as tp
use Rattle.gs_grammar.specs.declared.trees.Decl.{Decl}
use Rattle.gs_grammar.specs.declared.trees.Decl.TheVariants as de
use Rattle.gs_grammar.specs.declared.trees.ConstSpec.{ConstSpec}
use Rattle.gs_grammar.specs.declared.trees.ConstSpec.TheVariants as cns
use Rattle.gs_grammar.specs.declared.trees.TypeSpec.{TypeSpec}
use Rattle.gs_grammar.specs.declared.trees.TypeSpec.TheVariants as tys
use Rattle.gs_grammar.specs.declared.trees.VarSpec.{VarSpec}
use Rattle.gs_grammar.specs.declared.trees.VarSpec.TheVariants as vs
use Rattle.gs_grammar.specs.declared.trees.TypeExpr.{TypeExpr}
use Rattle.gs_grammar.specs.declared.trees.TypeExpr.TheVariants as ty
use Rattle.gs_grammar.specs.declared.trees.Signature.{Signature}
use Rattle.gs_grammar.specs.declared.trees.Signature.TheVariants as sg
use Rattle.gs_grammar.specs.declared.trees.Parameters.{Parameters}
use Rattle.gs_grammar.specs.declared.trees.Parameter.{Parameter}
use Rattle.gs_grammar.specs.declared.trees.Parameter.TheVariants as pa
use Rattle.gs_grammar.specs.declared.trees.Field.{Field}
use Rattle.gs_grammar.specs.declared.trees.Field.TheVariants as fi
use Rattle.gs_grammar.specs.declared.trees.Member.{Member}
use Rattle.gs_grammar.specs.declared.trees.Member.TheVariants as me
use Rattle.gs_grammar.specs.declared.trees.Expr.{Expr}
use Rattle.gs_grammar.specs.declared.trees.Expr.TheVariants as ex
use Rattle.gs_grammar.specs.declared.trees.Suffix.{Suffix}
use Rattle.gs_grammar.specs.declared.trees.Suffix.TheVariants as sf
use Rattle.gs_grammar.specs.declared.trees.LiteralValue.{LiteralValue}
use Rattle.gs_grammar.specs.declared.trees.Element.{Element}
use Rattle.gs_grammar.specs.declared.trees.Element.TheVariants as el
use Rattle.gs_grammar.specs.declared.trees.ElementValue.{ElementValue}
use Rattle.gs_grammar.specs.declared.trees.ElementValue.TheVariants as ev
use Rattle.gs_grammar.specs.declared.trees.Block.{Block}
use Rattle.gs_grammar.specs.declared.trees.Stmt.{Stmt}
use Rattle.gs_grammar.specs.declared.trees.Stmt.TheVariants as st
use Rattle.gs_grammar.specs.declared.trees.Simple.{Simple}
use Rattle.gs_grammar.specs.declared.trees.Simple.TheVariants as si
use Rattle.gs_grammar.specs.declared.trees.Arm.{Arm}
use Rattle.gs_grammar.specs.declared.trees.Clause.{Clause}
use Rattle.gs_grammar.specs.declared.trees.Clause.TheVariants as cl
use Rattle.gs_grammar.specs.declared.trees.TypeClause.{TypeClause}
use Rattle.gs_grammar.specs.declared.trees.TypeClause.TheVariants as tc
use Rattle.gs_grammar.specs.declared.trees.CommClause.{CommClause}
use Rattle.gs_grammar.specs.declared.trees.CommClause.TheVariants as co
use Rattle.gs_grammar.specs.declared.trees.Comm.{Comm}
use Rattle.gs_grammar.specs.declared.trees.Comm.TheVariants as cm
use Rattle.gs_grammar.specs.declared.trees.RangeLeft.{RangeLeft}
use Rattle.gs_grammar.specs.declared.trees.RangeLeft.TheVariants as rl
use Rattle.gs_grammar.specs.Front.{operator, IsMark, IsWord, IsName, IsText, IsFront, mark_at, selector_at, is_basic, is_binary, is_composite_start, is_other_start, is_semi, is_sign, is_step, is_stop, is_update}
use Rattle.gs_grammar.specs.Parts.{suffixed, binary, make_parameters, make_literal, make_block, make_arm, is_single, is_receiver, is_define}

-- what a rule may ask for at a later place
pub data Ahead : Type 0 where
  a_type : Ahead
  a_literal : Ahead
  a_selected : Ahead
  a_block : Ahead
  a_received : Ahead

-- perhaps a comma, behind the last part of a list
pub data IsPerhapsComma : List Token → List Token → Type 0 where
  without_comma : {r : List Token} → IsPerhapsComma r r
  with_comma : {p : Span} {s r : List Token} → IsMark mark.Comma p s r → IsPerhapsComma s r

-- `Stands p s r`: such a part stands at the front of s, which is shorter than the tokens at hand, and r follows it.
module _ (Stands : Ahead → List Token → List Token → Type 0) where
  -- no such part stands at the front of r
  abbrev pub Lacks : Ahead → List Token → Type 0
  Lacks p r = (u : List Token) → Stands p r u → ⊥

  mutual
    -- ---- Names and types

    -- IdentifierList; it may stop anywhere (Constant declarations)
    pub data ArePlainNames : List Token → List Token → List Token → ℕ → Type 0 where
      plain_one_name : {x : Token} {s r : List Token} → IsName x s r → ArePlainNames (x ∷ []) s r 0
      plain_more_names : {p1 : Span} {x : Token} {xs : List Token} {s s1 s2 r : List Token} {d : ℕ} → IsName x s s1 → IsMark mark.Comma p1 s1 s2 → ArePlainNames xs s2 r d → ArePlainNames (x ∷ xs) s r d

    -- TypeName: a name takes a selector where one follows (Types)
    pub data IsPlainTypeName : TypeExpr → List Token → List Token → ℕ → Type 0 where
      plain_bare : {x : Token} {s r : List Token} → IsName x s r → selector_at r ≡ None → IsPlainTypeName (ty.Name x) s r 0
      plain_qualified : {p1 : Span} {x y : Token} {s s1 s2 r : List Token} → IsName x s s1 → IsMark mark.Dot p1 s1 s2 → IsName y s2 r → IsPlainTypeName (ty.Qualified x y) s r 0

    -- Type: `chan` takes an arrow where one follows (Types)
    pub data IsPlainType : TypeExpr → List Token → List Token → ℕ → Type 0 where
      plain_named : {t : TypeExpr} {s r : List Token} {d : ℕ} → IsPlainTypeName t s r d → IsPlainType t s r d
      plain_paren_type : {p q : Span} {t : TypeExpr} {s s1 s2 r : List Token} {d : ℕ} → IsMark mark.LeftParen p s s1 → IsPlainType t s1 s2 d → IsMark mark.RightParen q s2 r → IsPlainType (ty.Paren p t q) s r (suc d)
      plain_pointer : {p : Span} {t : TypeExpr} {s s1 r : List Token} {d : ℕ} → IsMark mark.Star p s s1 → IsPlainType t s1 r d → IsPlainType (ty.Pointer p t) s r (suc d)
      plain_slice : {p p1 : Span} {t : TypeExpr} {s s1 s2 r : List Token} {d : ℕ} → IsMark mark.LeftBracket p s s1 → IsMark mark.RightBracket p1 s1 s2 → IsPlainType t s2 r d → IsPlainType (ty.Slice p t) s r (suc d)
      plain_array : {p p4 : Span} {y : Expr} {t : TypeExpr} {s s1 s2 s3 r : List Token} {d1 d2 : ℕ} → IsMark mark.LeftBracket p s s1 → IsPlainExpr 5 false false y s1 s2 d1 → IsMark mark.RightBracket p4 s2 s3 → IsPlainType t s3 r d2 → IsPlainType (ty.Array p y t) s r (suc (max d1 d2))
      plain_map_type : {p p1 p3 : Span} {t : TypeExpr} {u : TypeExpr} {s s1 s2 s3 s4 r : List Token} {d1 d2 : ℕ} → IsWord word.Map p s s1 → IsMark mark.LeftBracket p1 s1 s2 → IsPlainType t s2 s3 d1 → IsMark mark.RightBracket p3 s3 s4 → IsPlainType u s4 r d2 → IsPlainType (ty.Map p t u) s r (suc (max d1 d2))
      plain_channel : {p : Span} {t : TypeExpr} {s s1 r : List Token} {d : ℕ} → IsWord word.Chan p s s1 → mark_at mark.Arrow s1 ≡ None → IsPlainType t s1 r d → IsPlainType (ty.Channel p t) s r (suc d)
      plain_send_channel : {p p1 : Span} {t : TypeExpr} {s s1 s2 r : List Token} {d : ℕ} → IsWord word.Chan p s s1 → IsMark mark.Arrow p1 s1 s2 → IsPlainType t s2 r d → IsPlainType (ty.SendChannel p t) s r (suc d)
      plain_receive_channel : {p p1 : Span} {t : TypeExpr} {s s1 s2 r : List Token} {d : ℕ} → IsMark mark.Arrow p s s1 → IsWord word.Chan p1 s1 s2 → IsPlainType t s2 r d → IsPlainType (ty.ReceiveChannel p t) s r (suc d)
      plain_function_type : {p : Span} {z : Signature} {s s1 r : List Token} {d : ℕ} → IsWord word.Func p s s1 → IsPlainSignature z s1 r d → IsPlainType (ty.Function p z) s r (suc d)
      plain_struct_type : {p p1 q : Span} {fs : List Field} {s s1 s2 s3 r : List Token} {d : ℕ} → IsWord word.Struct p s s1 → IsMark mark.LeftBrace p1 s1 s2 → ArePlainFields fs s2 s3 d → IsMark mark.RightBrace q s3 r → IsPlainType (ty.Struct p fs q) s r (suc d)
      plain_interface_type : {p p1 q : Span} {ms : List Member} {s s1 s2 s3 r : List Token} {d : ℕ} → IsWord word.Interface p s s1 → IsMark mark.LeftBrace p1 s1 s2 → ArePlainMembers ms s2 s3 d → IsMark mark.RightBrace q s3 r → IsPlainType (ty.Interface p ms q) s r (suc d)

    -- Parameters without names; v: dots may stand before the last type. A comma may stand behind the last one (Function types)
    pub data ArePlainUnnamed : Bool → List Parameter → List Token → List Token → ℕ → Type 0 where
      plain_last_type : {v : Bool} {t : TypeExpr} {s s1 r : List Token} {d : ℕ} → IsPlainType t s s1 d → IsPerhapsComma s1 r → ArePlainUnnamed v (pa.Plain t ∷ []) s r d
      plain_more_types : {v : Bool} {p1 : Span} {t : TypeExpr} {ps : List Parameter} {s s1 s2 r : List Token} {d1 d2 : ℕ} → IsPlainType t s s1 d1 → IsMark mark.Comma p1 s1 s2 → ArePlainUnnamed v ps s2 r d2 → ArePlainUnnamed v (pa.Plain t ∷ ps) s r (max d1 d2)
      plain_last_dots : {v : Bool} {p : Span} {t : TypeExpr} {s s1 s2 r : List Token} {d : ℕ} → IsMark mark.Ellipsis p s s1 → v ≡ true → IsPlainType t s1 s2 d → IsPerhapsComma s2 r → ArePlainUnnamed v (pa.Variadic p t ∷ []) s r d

    -- Parameters with names (Function types)
    pub data ArePlainNamed : Bool → List Parameter → List Token → List Token → ℕ → Type 0 where
      plain_last_named_dots : {v : Bool} {p : Span} {xs : List Token} {t : TypeExpr} {s s1 s2 s3 r : List Token} {d1 d2 : ℕ} → ArePlainNames xs s s1 d1 → IsMark mark.Ellipsis p s1 s2 → is_single xs ≡ true → v ≡ true → IsPlainType t s2 s3 d2 → IsPerhapsComma s3 r → ArePlainNamed v (pa.NamedVariadic xs p t ∷ []) s r (max d1 d2)
      plain_last_named : {v : Bool} {xs : List Token} {t : TypeExpr} {s s1 s2 r : List Token} {d1 d2 : ℕ} → ArePlainNames xs s s1 d1 → IsPlainType t s1 s2 d2 → IsPerhapsComma s2 r → ArePlainNamed v (pa.Named xs t ∷ []) s r (max d1 d2)
      plain_more_named : {v : Bool} {p3 : Span} {xs : List Token} {t : TypeExpr} {ps : List Parameter} {s s1 s2 s3 r : List Token} {d1 d2 d3 : ℕ} → ArePlainNames xs s s1 d1 → IsPlainType t s1 s2 d2 → IsMark mark.Comma p3 s2 s3 → ArePlainNamed v ps s3 r d3 → ArePlainNamed v (pa.Named xs t ∷ ps) s r (max d1 (max d2 d3))

    -- Parameters: all have names or none has (Function types)
    pub data ArePlainParams : Bool → Parameters → List Token → List Token → ℕ → Type 0 where
      plain_no_params : {v : Bool} {p q : Span} {s s1 r : List Token} → IsMark mark.LeftParen p s s1 → IsMark mark.RightParen q s1 r → ArePlainParams v (make_parameters p [] q) s r 1
      plain_named_list : {v : Bool} {p q : Span} {ps : List Parameter} {s s1 s2 r : List Token} {d : ℕ} → IsMark mark.LeftParen p s s1 → ArePlainNamed v ps s1 s2 d → IsMark mark.RightParen q s2 r → ArePlainParams v (make_parameters p ps q) s r (suc d)
      plain_unnamed_list : {v : Bool} {p q : Span} {ps : List Parameter} {s s1 s2 r : List Token} {d : ℕ} → IsMark mark.LeftParen p s s1 → ArePlainUnnamed v ps s1 s2 d → IsMark mark.RightParen q s2 r → ArePlainParams v (make_parameters p ps q) s r (suc d)

    -- Signature: a parenthesis directly behind the parameters begins results, and a type that begins there is the result (Function types)
    pub data IsPlainSignature : Signature → List Token → List Token → ℕ → Type 0 where
      plain_results : {ps : Parameters} {qs : Parameters} {s s1 r : List Token} {d1 d2 : ℕ} → ArePlainParams true ps s s1 d1 → ArePlainParams false qs s1 r d2 → IsPlainSignature (sg.Results ps qs) s r (max d1 d2)
      plain_result : {ps : Parameters} {t : TypeExpr} {s s1 r : List Token} {d1 d2 : ℕ} → ArePlainParams true ps s s1 d1 → mark_at mark.LeftParen s1 ≡ None → IsPlainType t s1 r d2 → IsPlainSignature (sg.Result ps t) s r (max d1 d2)
      plain_signature : {ps : Parameters} {s r : List Token} {d : ℕ} → ArePlainParams true ps s r d → mark_at mark.LeftParen r ≡ None → Lacks Ahead.a_type r → IsPlainSignature (sg.Plain ps) s r d

    -- Tag (Struct types)
    pub data IsPlainTag : Option Token → List Token → List Token → ℕ → Type 0 where
      plain_a_tag : {x : Token} {s r : List Token} → IsText x s r → IsPlainTag (Some x) s r 0
      plain_no_tag : {r : List Token} → IsPlainTag None r r 0

    -- FieldDecl (Struct types)
    pub data IsPlainField : Field → List Token → List Token → ℕ → Type 0 where
      plain_named_field : {xs : List Token} {t : TypeExpr} {z : Option Token} {s s1 s2 r : List Token} {d1 d2 d3 : ℕ} → ArePlainNames xs s s1 d1 → IsPlainType t s1 s2 d2 → IsPlainTag z s2 r d3 → IsPlainField (fi.Named xs t z) s r (max d1 (max d2 d3))
      plain_embedded_field : {x : Token} {z : Option Token} {s s1 r : List Token} {d : ℕ} → IsName x s s1 → IsPlainTag z s1 r d → IsPlainField (fi.Embedded (ty.Name x) z) s r d
      plain_qualified_field : {p1 : Span} {x y : Token} {z : Option Token} {s s1 s2 s3 r : List Token} {d : ℕ} → IsName x s s1 → IsMark mark.Dot p1 s1 s2 → IsName y s2 s3 → IsPlainTag z s3 r d → IsPlainField (fi.Embedded (ty.Qualified x y) z) s r d
      plain_pointer_field : {p : Span} {t : TypeExpr} {z : Option Token} {s s1 s2 r : List Token} {d1 d2 : ℕ} → IsMark mark.Star p s s1 → IsPlainTypeName t s1 s2 d1 → IsPlainTag z s2 r d2 → IsPlainField (fi.Embedded (ty.Pointer p t) z) s r (suc (max d1 d2))

    -- they may stop anywhere
    pub data ArePlainFields : List Field → List Token → List Token → ℕ → Type 0 where
      plain_last_field : {y : Field} {s r : List Token} {d : ℕ} → IsPlainField y s r d → ArePlainFields (y ∷ []) s r d
      plain_more_fields : {x : Token} {y : Field} {fs : List Field} {s s1 s2 r : List Token} {d1 d2 : ℕ} → IsPlainField y s s1 d1 → IsFront is_semi x s1 s2 → ArePlainFields fs s2 r d2 → ArePlainFields (y ∷ fs) s r (max d1 d2)
      plain_no_fields : {r : List Token} → ArePlainFields [] r r 0

    -- MethodSpec, InterfaceTypeName (Interface types)
    pub data IsPlainMember : Member → List Token → List Token → ℕ → Type 0 where
      plain_method : {x : Token} {z : Signature} {s s1 r : List Token} {d : ℕ} → IsName x s s1 → IsPlainSignature z s1 r d → IsPlainMember (me.Method x z) s r d
      plain_embedded_interface : {x : Token} {s r : List Token} → IsName x s r → IsPlainMember (me.Embedded (ty.Name x)) s r 0
      plain_qualified_interface : {p1 : Span} {x y : Token} {s s1 s2 r : List Token} → IsName x s s1 → IsMark mark.Dot p1 s1 s2 → IsName y s2 r → IsPlainMember (me.Embedded (ty.Qualified x y)) s r 0

    -- they may stop anywhere
    pub data ArePlainMembers : List Member → List Token → List Token → ℕ → Type 0 where
      plain_last_member : {m : Member} {s r : List Token} {d : ℕ} → IsPlainMember m s r d → ArePlainMembers (m ∷ []) s r d
      plain_more_members : {x : Token} {m : Member} {ms : List Member} {s s1 s2 r : List Token} {d1 d2 : ℕ} → IsPlainMember m s s1 d1 → IsFront is_semi x s1 s2 → ArePlainMembers ms s2 r d2 → ArePlainMembers (m ∷ ms) s r (max d1 d2)
      plain_no_members : {r : List Token} → ArePlainMembers [] r r 0

    -- ---- Expressions

    -- LiteralValue (Composite literals)
    pub data IsPlainLiteral : LiteralValue → List Token → List Token → ℕ → Type 0 where
      plain_values_in_braces : {p q : Span} {xs : List Element} {s s1 s2 r : List Token} {d : ℕ} → IsMark mark.LeftBrace p s s1 → ArePlainElements xs s1 s2 d → IsMark mark.RightBrace q s2 r → IsPlainLiteral (make_literal p xs q) s r (suc d)

    -- the rest of a literal of a qualified type, behind its first name
    pub data IsPlainSelected : Token × LiteralValue → List Token → List Token → ℕ → Type 0 where
      plain_selected_literal : {p0 : Span} {y : Token} {v : LiteralValue} {s s1 s2 r : List Token} {d : ℕ} → IsMark mark.Dot p0 s s1 → IsName y s1 s2 → IsPlainLiteral v s2 r d → IsPlainSelected ((y, v)) s r d

    -- Block (Blocks)
    pub data IsPlainBlock : Block → List Token → List Token → ℕ → Type 0 where
      plain_braces : {p q : Span} {ts : List Stmt} {s s1 s2 r : List Token} {d : ℕ} → IsMark mark.LeftBrace p s s1 → ArePlainStmts ts s1 s2 d → IsMark mark.RightBrace q s2 r → IsPlainBlock (make_block p ts q) s r (suc d)

    -- behind an arrow: the type of a channel to receive from, with a comma or a closing parenthesis behind it
    pub data IsPlainReceived : TypeExpr → List Token → List Token → ℕ → Type 0 where
      plain_received : {p0 : Span} {x2 : Token} {t : TypeExpr} {s s1 r w2 : List Token} {d : ℕ} → IsWord word.Chan p0 s s1 → IsPlainType t s1 r d → IsFront is_stop x2 r w2 → IsPlainReceived t s r d

    -- Operand; h: in a header, outside brackets, where a name takes no literal. A name, or a type that begins with its own
    -- token, goes without a literal only where none stands, and a signature without a block only where none stands (Operands)
    pub data IsPlainHead : Bool → Expr → List Token → List Token → ℕ → Type 0 where
      plain_basic_literal : {h : Bool} {x : Token} {s r : List Token} → IsFront is_basic x s r → IsPlainHead h (ex.Literal x) s r 0
      plain_header_name : {h : Bool} {x : Token} {s r : List Token} → IsName x s r → h ≡ true → IsPlainHead h (ex.Name x) s r 0
      plain_literal_of_selected : {h : Bool} {x : Token} {y : Token × LiteralValue} {s s1 r : List Token} {d : ℕ} → IsName x s s1 → h ≡ false → IsPlainSelected y s1 r d → IsPlainHead h (ex.Composite (ty.Qualified x y.0) y.1) s r d
      plain_name : {h : Bool} {x : Token} {s r : List Token} → IsName x s r → h ≡ false → Lacks Ahead.a_selected r → Lacks Ahead.a_literal r → IsPlainHead h (ex.Name x) s r 0
      plain_literal_of_name : {h : Bool} {x : Token} {v : LiteralValue} {s s1 r : List Token} {d : ℕ} → IsName x s s1 → h ≡ false → IsPlainLiteral v s1 r d → IsPlainHead h (ex.Composite (ty.Name x) v) s r d
      plain_paren : {h : Bool} {p q : Span} {t : Expr} {s s1 s2 r : List Token} {d : ℕ} → IsMark mark.LeftParen p s s1 → IsPlainExpr 5 false true t s1 s2 d → IsMark mark.RightParen q s2 r → IsPlainHead h (ex.Paren p t q) s r (suc d)
      plain_literal_of_type : {h : Bool} {x0 : Token} {t : TypeExpr} {v : LiteralValue} {s s1 r w0 : List Token} {d1 d2 : ℕ} → IsFront is_composite_start x0 s w0 → IsPlainType t s s1 d1 → IsPlainLiteral v s1 r d2 → IsPlainHead h (ex.Composite t v) s r (max d1 d2)
      plain_composite_type : {h : Bool} {x0 : Token} {t : TypeExpr} {s r w0 : List Token} {d : ℕ} → IsFront is_composite_start x0 s w0 → IsPlainType t s r d → Lacks Ahead.a_literal r → IsPlainHead h (ex.Type t) s r d
      plain_counted_literal : {h : Bool} {p p1 p2 : Span} {t : TypeExpr} {v : LiteralValue} {s s1 s2 s3 s4 r : List Token} {d1 d2 : ℕ} → IsMark mark.LeftBracket p s s1 → IsMark mark.Ellipsis p1 s1 s2 → IsMark mark.RightBracket p2 s2 s3 → IsPlainType t s3 s4 d1 → IsPlainLiteral v s4 r d2 → IsPlainHead h (ex.Counted p t v) s r (max (suc d1) d2)
      plain_other_type : {h : Bool} {x0 : Token} {t : TypeExpr} {s r w0 : List Token} {d : ℕ} → IsFront is_other_start x0 s w0 → IsPlainType t s r d → IsPlainHead h (ex.Type t) s r d
      plain_function_literal : {h : Bool} {p : Span} {z : Signature} {b : Block} {s s1 s2 r : List Token} {d1 d2 : ℕ} → IsWord word.Func p s s1 → IsPlainSignature z s1 s2 d1 → IsPlainBlock b s2 r d2 → IsPlainHead h (ex.Function p z b) s r (suc (max d1 d2))
      plain_lone_function_type : {h : Bool} {p : Span} {z : Signature} {s s1 r : List Token} {d : ℕ} → IsWord word.Func p s s1 → IsPlainSignature z s1 r d → Lacks Ahead.a_block r → IsPlainHead h (ex.Type (ty.Function p z)) s r (suc d)

    -- an index of a slice expression, or none
    pub data IsPlainBound : Option Expr → List Token → List Token → ℕ → Type 0 where
      plain_a_bound : {t : Expr} {s r : List Token} {d : ℕ} → IsPlainExpr 5 false false t s r d → IsPlainBound (Some t) s r d
      plain_no_bound : {r : List Token} → IsPlainBound None r r 0

    -- Arguments; a comma may stand behind the last one (Calls)
    pub data ArePlainArgs : List Expr × Option Span → List Token → List Token → ℕ → Type 0 where
      plain_spread : {p : Span} {t : Expr} {s s1 s2 r : List Token} {d : ℕ} → IsPlainExpr 5 false true t s s1 d → IsMark mark.Ellipsis p s1 s2 → IsPerhapsComma s2 r → ArePlainArgs ((t ∷ [], Some p)) s r d
      plain_last_arg : {t : Expr} {s s1 r : List Token} {d : ℕ} → IsPlainExpr 5 false true t s s1 d → IsPerhapsComma s1 r → ArePlainArgs ((t ∷ [], None)) s r d
      plain_more_args : {p1 : Span} {t : Expr} {ts : List Expr × Option Span} {s s1 s2 r : List Token} {d1 d2 : ℕ} → IsPlainExpr 5 false true t s s1 d1 → IsMark mark.Comma p1 s1 s2 → ArePlainArgs ts s2 r d2 → ArePlainArgs ((t ∷ ts.0, ts.1)) s r (max d1 d2)
      plain_no_args : {r : List Token} → ArePlainArgs (([], None)) r r 0

    -- Selector, TypeAssertion, Index, Slice, Arguments (Primary expressions)
    pub data IsPlainSuffix : Suffix → List Token → List Token → ℕ → Type 0 where
      plain_selector : {p0 : Span} {x : Token} {s s1 r : List Token} → IsMark mark.Dot p0 s s1 → IsName x s1 r → IsPlainSuffix (sf.Selector x) s r 0
      plain_assertion : {p0 p1 q : Span} {t : TypeExpr} {s s1 s2 s3 r : List Token} {d : ℕ} → IsMark mark.Dot p0 s s1 → IsMark mark.LeftParen p1 s1 s2 → IsPlainType t s2 s3 d → IsMark mark.RightParen q s3 r → IsPlainSuffix (sf.Assertion t q) s r (suc d)
      plain_open_slice : {p0 p1 q : Span} {b : Option Expr} {s s1 s2 s3 r : List Token} {d : ℕ} → IsMark mark.LeftBracket p0 s s1 → IsMark mark.Colon p1 s1 s2 → IsPlainBound b s2 s3 d → IsMark mark.RightBracket q s3 r → IsPlainSuffix (sf.Slice None b q) s r (suc d)
      plain_open_full_slice : {p0 p1 p3 q : Span} {b : Expr} {c : Expr} {s s1 s2 s3 s4 s5 r : List Token} {d1 d2 : ℕ} → IsMark mark.LeftBracket p0 s s1 → IsMark mark.Colon p1 s1 s2 → IsPlainExpr 5 false false b s2 s3 d1 → IsMark mark.Colon p3 s3 s4 → IsPlainExpr 5 false false c s4 s5 d2 → IsMark mark.RightBracket q s5 r → IsPlainSuffix (sf.FullSlice None b c q) s r (suc (max d1 d2))
      plain_index : {p0 q : Span} {t : Expr} {s s1 s2 r : List Token} {d : ℕ} → IsMark mark.LeftBracket p0 s s1 → IsPlainExpr 5 false false t s1 s2 d → IsMark mark.RightBracket q s2 r → IsPlainSuffix (sf.Index t q) s r (suc d)
      plain_slice_expr : {p0 p3 q : Span} {a : Expr} {b : Option Expr} {s s1 s2 s3 s4 r : List Token} {d1 d2 : ℕ} → IsMark mark.LeftBracket p0 s s1 → IsPlainExpr 5 false false a s1 s2 d1 → IsMark mark.Colon p3 s2 s3 → IsPlainBound b s3 s4 d2 → IsMark mark.RightBracket q s4 r → IsPlainSuffix (sf.Slice (Some a) b q) s r (suc (max d1 d2))
      plain_full_slice : {p0 p3 p5 q : Span} {a : Expr} {b : Expr} {c : Expr} {s s1 s2 s3 s4 s5 s6 r : List Token} {d1 d2 d3 : ℕ} → IsMark mark.LeftBracket p0 s s1 → IsPlainExpr 5 false false a s1 s2 d1 → IsMark mark.Colon p3 s2 s3 → IsPlainExpr 5 false false b s3 s4 d2 → IsMark mark.Colon p5 s4 s5 → IsPlainExpr 5 false false c s5 s6 d3 → IsMark mark.RightBracket q s6 r → IsPlainSuffix (sf.FullSlice (Some a) b c q) s r (suc (max d1 (max d2 d3)))
      plain_call : {p0 q : Span} {ts : List Expr × Option Span} {s s1 s2 r : List Token} {d : ℕ} → IsMark mark.LeftParen p0 s s1 → ArePlainArgs ts s1 s2 d → IsMark mark.RightParen q s2 r → IsPlainSuffix (sf.Call ts.0 ts.1 q) s r (suc d)

    -- they may stop anywhere
    pub data ArePlainSuffixes : List Suffix → List Token → List Token → ℕ → Type 0 where
      plain_more_suffixes : {x : Suffix} {xs : List Suffix} {s s1 r : List Token} {d1 d2 : ℕ} → IsPlainSuffix x s s1 d1 → ArePlainSuffixes xs s1 r d2 → ArePlainSuffixes (x ∷ xs) s r (max d1 d2)
      plain_no_suffixes : {r : List Token} → ArePlainSuffixes [] r r 0

    -- PrimaryExpr (Primary expressions)
    pub data IsPlainPrimary : Bool → Expr → List Token → List Token → ℕ → Type 0 where
      plain_primary : {h : Bool} {t : Expr} {xs : List Suffix} {s s1 r : List Token} {d1 d2 : ℕ} → IsPlainHead h t s s1 d1 → ArePlainSuffixes xs s1 r d2 → IsPlainPrimary h (suffixed t xs) s r (max d1 d2)

    -- UnaryExpr; w: nothing, or nothing but stars, stands between the place and the start of an argument or a parenthesis: there
    -- `<-` is the operator only where it does not begin the type of a channel with a comma or a closing parenthesis behind it (Operators)
    pub data IsPlainUnary : Bool → Bool → Expr → List Token → List Token → ℕ → Type 0 where
      plain_bare_primary : {h : Bool} {w : Bool} {t : Expr} {s r : List Token} {d : ℕ} → IsPlainPrimary h t s r d → IsPlainUnary h w t s r d
      plain_signed : {h : Bool} {w : Bool} {x : Token} {t : Expr} {s s1 r : List Token} {d : ℕ} → IsFront is_sign x s s1 → IsPlainUnary h false t s1 r d → IsPlainUnary h w (ex.Prefixed x t) s r (suc d)
      plain_starred : {h : Bool} {w : Bool} {p : Span} {t : Expr} {s s1 r : List Token} {d : ℕ} → IsMark mark.Star p s s1 → IsPlainUnary h w t s1 r d → IsPlainUnary h w (ex.Prefixed (operator mark.Star p) t) s r (suc d)
      plain_receiver : {h : Bool} {w : Bool} {p : Span} {t : TypeExpr} {s s1 r : List Token} {d : ℕ} → IsMark mark.Arrow p s s1 → w ≡ true → IsPlainReceived t s1 r d → IsPlainUnary h w (ex.Type (ty.ReceiveChannel p t)) s r (suc d)
      plain_receive_first : {h : Bool} {w : Bool} {p : Span} {t : Expr} {s s1 r : List Token} {d : ℕ} → IsMark mark.Arrow p s s1 → w ≡ true → Lacks Ahead.a_received s1 → IsPlainUnary h false t s1 r d → IsPlainUnary h w (ex.Prefixed (operator mark.Arrow p) t) s r (suc d)
      plain_receive : {h : Bool} {w : Bool} {p : Span} {t : Expr} {s s1 r : List Token} {d : ℕ} → IsMark mark.Arrow p s s1 → w ≡ false → IsPlainUnary h false t s1 r d → IsPlainUnary h w (ex.Prefixed (operator mark.Arrow p) t) s r (suc d)

    -- Expression; its operators outside brackets are of the n tightest precedences (Operators)
    pub data IsPlainExpr : ℕ → Bool → Bool → Expr → List Token → List Token → ℕ → Type 0 where
      plain_lone : {h w : Bool} {t : Expr} {s r : List Token} {d : ℕ} → IsPlainUnary h w t s r d → IsPlainExpr zero h w t s r d
      plain_level : {m : ℕ} {h w : Bool} {t : Expr} {os : List (Token × Expr)} {s s1 r : List Token} {d1 d2 : ℕ} → IsPlainExpr m h w t s s1 d1 → ArePlainOperands m h os s1 r d2 → IsPlainExpr (suc m) h w (binary t os) s r (max d1 d2)

    -- an operator of the precedence n, from 0 for the tightest, and the operand on its right
    pub data IsPlainOperand : ℕ → Bool → Token × Expr → List Token → List Token → ℕ → Type 0 where
      plain_operand : {m : ℕ} {h : Bool} {x : Token} {t : Expr} {s s1 r : List Token} {d : ℕ} → IsFront (is_binary m) x s s1 → IsPlainExpr m h false t s1 r d → IsPlainOperand m h ((x, t)) s r d

    -- they may stop anywhere
    pub data ArePlainOperands : ℕ → Bool → List (Token × Expr) → List Token → List Token → ℕ → Type 0 where
      plain_more_operands : {m : ℕ} {h : Bool} {x : Token × Expr} {xs : List (Token × Expr)} {s s1 r : List Token} {d1 d2 : ℕ} → IsPlainOperand m h x s s1 d1 → ArePlainOperands m h xs s1 r d2 → ArePlainOperands m h (x ∷ xs) s r (max d1 d2)
      plain_no_operands : {m : ℕ} {h : Bool} {r : List Token} → ArePlainOperands m h [] r r 0

    -- Element (Composite literals)
    pub data IsPlainValue : ElementValue → List Token → List Token → ℕ → Type 0 where
      plain_value_expr : {t : Expr} {s r : List Token} {d : ℕ} → IsPlainExpr 5 false false t s r d → IsPlainValue (ev.Expr t) s r d
      plain_value_literal : {p q : Span} {xs : List Element} {s s1 s2 r : List Token} {d : ℕ} → IsMark mark.LeftBrace p s s1 → ArePlainElements xs s1 s2 d → IsMark mark.RightBrace q s2 r → IsPlainValue (ev.Literal (make_literal p xs q)) s r (suc d)

    -- KeyedElement (Composite literals)
    pub data IsPlainElement : Element → List Token → List Token → ℕ → Type 0 where
      plain_lone_element : {a : ElementValue} {s r : List Token} {d : ℕ} → IsPlainValue a s r d → IsPlainElement (el.Plain a) s r d
      plain_keyed_element : {p1 : Span} {a : ElementValue} {b : ElementValue} {s s1 s2 r : List Token} {d1 d2 : ℕ} → IsPlainValue a s s1 d1 → IsMark mark.Colon p1 s1 s2 → IsPlainValue b s2 r d2 → IsPlainElement (el.Keyed a b) s r (max d1 d2)

    -- ElementList; a comma may stand behind the last one (Composite literals)
    pub data ArePlainElements : List Element → List Token → List Token → ℕ → Type 0 where
      plain_last_element : {x : Element} {s s1 r : List Token} {d : ℕ} → IsPlainElement x s s1 d → IsPerhapsComma s1 r → ArePlainElements (x ∷ []) s r d
      plain_more_elements : {p1 : Span} {x : Element} {xs : List Element} {s s1 s2 r : List Token} {d1 d2 : ℕ} → IsPlainElement x s s1 d1 → IsMark mark.Comma p1 s1 s2 → ArePlainElements xs s2 r d2 → ArePlainElements (x ∷ xs) s r (max d1 d2)
      plain_no_elements : {r : List Token} → ArePlainElements [] r r 0

    -- ExpressionList (Expressions)
    pub data ArePlainExprs : Bool → List Expr → List Token → List Token → ℕ → Type 0 where
      plain_one_expr : {h : Bool} {t : Expr} {s r : List Token} {d : ℕ} → IsPlainExpr 5 h false t s r d → ArePlainExprs h (t ∷ []) s r d
      plain_more_exprs : {h : Bool} {p1 : Span} {t : Expr} {ts : List Expr} {s s1 s2 r : List Token} {d1 d2 : ℕ} → IsPlainExpr 5 h false t s s1 d1 → IsMark mark.Comma p1 s1 s2 → ArePlainExprs h ts s2 r d2 → ArePlainExprs h (t ∷ ts) s r (max d1 d2)

    -- ---- Statements

    -- SimpleStmt that has tokens (Statements)
    pub data IsPlainSimple : Bool → Simple → List Token → List Token → ℕ → Type 0 where
      plain_assign : {h : Bool} {p : Span} {ts : List Expr} {us : List Expr} {s s1 s2 r : List Token} {d1 d2 : ℕ} → ArePlainExprs h ts s s1 d1 → IsMark mark.Assign p s1 s2 → ArePlainExprs h us s2 r d2 → IsPlainSimple h (si.Assign ts p us) s r (max d1 d2)
      plain_define : {h : Bool} {p : Span} {ts : List Expr} {us : List Expr} {s s1 s2 r : List Token} {d1 d2 : ℕ} → ArePlainExprs h ts s s1 d1 → IsMark mark.Define p s1 s2 → ArePlainExprs h us s2 r d2 → IsPlainSimple h (si.Define ts p us) s r (max d1 d2)
      plain_expression : {h : Bool} {t : Expr} {s r : List Token} {d : ℕ} → IsPlainExpr 5 h false t s r d → IsPlainSimple h (si.Expr t) s r d
      plain_send : {h : Bool} {p : Span} {t : Expr} {u : Expr} {s s1 s2 r : List Token} {d1 d2 : ℕ} → IsPlainExpr 5 h false t s s1 d1 → IsMark mark.Arrow p s1 s2 → IsPlainExpr 5 h false u s2 r d2 → IsPlainSimple h (si.Send t (operator mark.Arrow p) u) s r (max d1 d2)
      plain_step : {h : Bool} {x : Token} {t : Expr} {s s1 r : List Token} {d : ℕ} → IsPlainExpr 5 h false t s s1 d → IsFront is_step x s1 r → IsPlainSimple h (si.Step t x) s r d
      plain_update : {h : Bool} {x : Token} {t : Expr} {u : Expr} {s s1 s2 r : List Token} {d1 d2 : ℕ} → IsPlainExpr 5 h false t s s1 d1 → IsFront is_update x s1 s2 → IsPlainExpr 5 h false u s2 r d2 → IsPlainSimple h (si.Update t x u) s r (max d1 d2)

    -- ConstSpec; i: the first one, which has values (Constant declarations)
    pub data IsPlainConstSpec : Bool → ConstSpec → List Token → List Token → ℕ → Type 0 where
      plain_implicit : {i : Bool} {xs : List Token} {s r : List Token} {d : ℕ} → ArePlainNames xs s r d → i ≡ false → IsPlainConstSpec i (cns.Implicit xs) s r d
      plain_untyped : {i : Bool} {p1 : Span} {xs : List Token} {ts : List Expr} {s s1 s2 r : List Token} {d1 d2 : ℕ} → ArePlainNames xs s s1 d1 → IsMark mark.Assign p1 s1 s2 → ArePlainExprs false ts s2 r d2 → IsPlainConstSpec i (cns.Untyped xs ts) s r (max d1 d2)
      plain_typed_const : {i : Bool} {p4 : Span} {xs : List Token} {t : TypeExpr} {ts : List Expr} {s s1 s2 s3 r : List Token} {d1 d2 d3 : ℕ} → ArePlainNames xs s s1 d1 → IsPlainType t s1 s2 d2 → IsMark mark.Assign p4 s2 s3 → ArePlainExprs false ts s3 r d3 → IsPlainConstSpec i (cns.Typed xs t ts) s r (max d1 (max d2 d3))

    -- they may stop anywhere
    pub data ArePlainConstSpecs : Bool → List ConstSpec → List Token → List Token → ℕ → Type 0 where
      plain_last_const : {i : Bool} {c : ConstSpec} {s r : List Token} {d : ℕ} → IsPlainConstSpec i c s r d → ArePlainConstSpecs i (c ∷ []) s r d
      plain_more_consts : {i : Bool} {x : Token} {c : ConstSpec} {cs : List ConstSpec} {s s1 s2 r : List Token} {d1 d2 : ℕ} → IsPlainConstSpec i c s s1 d1 → IsFront is_semi x s1 s2 → ArePlainConstSpecs false cs s2 r d2 → ArePlainConstSpecs i (c ∷ cs) s r (max d1 d2)
      plain_no_consts : {i : Bool} {r : List Token} → ArePlainConstSpecs i [] r r 0

    -- TypeSpec (Type declarations)
    pub data IsPlainTypeSpec : TypeSpec → List Token → List Token → ℕ → Type 0 where
      plain_definition : {x : Token} {t : TypeExpr} {s s1 r : List Token} {d : ℕ} → IsName x s s1 → IsPlainType t s1 r d → IsPlainTypeSpec (tys.Definition x t) s r d
      plain_alias : {p1 : Span} {x : Token} {t : TypeExpr} {s s1 s2 r : List Token} {d : ℕ} → IsName x s s1 → IsMark mark.Assign p1 s1 s2 → IsPlainType t s2 r d → IsPlainTypeSpec (tys.Alias x t) s r d

    -- they may stop anywhere
    pub data ArePlainTypeSpecs : List TypeSpec → List Token → List Token → ℕ → Type 0 where
      plain_last_type_spec : {c : TypeSpec} {s r : List Token} {d : ℕ} → IsPlainTypeSpec c s r d → ArePlainTypeSpecs (c ∷ []) s r d
      plain_more_type_specs : {x : Token} {c : TypeSpec} {cs : List TypeSpec} {s s1 s2 r : List Token} {d1 d2 : ℕ} → IsPlainTypeSpec c s s1 d1 → IsFront is_semi x s1 s2 → ArePlainTypeSpecs cs s2 r d2 → ArePlainTypeSpecs (c ∷ cs) s r (max d1 d2)
      plain_no_type_specs : {r : List Token} → ArePlainTypeSpecs [] r r 0

    -- VarSpec (Variable declarations)
    pub data IsPlainVarSpec : VarSpec → List Token → List Token → ℕ → Type 0 where
      plain_var_values : {p1 : Span} {xs : List Token} {ts : List Expr} {s s1 s2 r : List Token} {d1 d2 : ℕ} → ArePlainNames xs s s1 d1 → IsMark mark.Assign p1 s1 s2 → ArePlainExprs false ts s2 r d2 → IsPlainVarSpec (vs.Values xs ts) s r (max d1 d2)
      plain_typed_var : {xs : List Token} {t : TypeExpr} {s s1 r : List Token} {d1 d2 : ℕ} → ArePlainNames xs s s1 d1 → IsPlainType t s1 r d2 → IsPlainVarSpec (vs.Typed xs t) s r (max d1 d2)
      plain_typed_values : {p3 : Span} {xs : List Token} {t : TypeExpr} {ts : List Expr} {s s1 s2 s3 r : List Token} {d1 d2 d3 : ℕ} → ArePlainNames xs s s1 d1 → IsPlainType t s1 s2 d2 → IsMark mark.Assign p3 s2 s3 → ArePlainExprs false ts s3 r d3 → IsPlainVarSpec (vs.TypedValues xs t ts) s r (max d1 (max d2 d3))

    -- they may stop anywhere
    pub data ArePlainVarSpecs : List VarSpec → List Token → List Token → ℕ → Type 0 where
      plain_last_var : {c : VarSpec} {s r : List Token} {d : ℕ} → IsPlainVarSpec c s r d → ArePlainVarSpecs (c ∷ []) s r d
      plain_more_vars : {x : Token} {c : VarSpec} {cs : List VarSpec} {s s1 s2 r : List Token} {d1 d2 : ℕ} → IsPlainVarSpec c s s1 d1 → IsFront is_semi x s1 s2 → ArePlainVarSpecs cs s2 r d2 → ArePlainVarSpecs (c ∷ cs) s r (max d1 d2)
      plain_no_vars : {r : List Token} → ArePlainVarSpecs [] r r 0

    -- Declaration (Declarations and scope)
    pub data IsPlainDecl : Decl → List Token → List Token → ℕ → Type 0 where
      plain_const_decl : {p : Span} {c : ConstSpec} {s s1 r : List Token} {d : ℕ} → IsWord word.Const p s s1 → IsPlainConstSpec true c s1 r d → IsPlainDecl (de.Const p c) s r d
      plain_const_group : {p p1 p3 : Span} {cs : List ConstSpec} {s s1 s2 s3 r : List Token} {d : ℕ} → IsWord word.Const p s s1 → IsMark mark.LeftParen p1 s1 s2 → ArePlainConstSpecs true cs s2 s3 d → IsMark mark.RightParen p3 s3 r → IsPlainDecl (de.ConstGroup p cs) s r (suc d)
      plain_type_decl : {p : Span} {c : TypeSpec} {s s1 r : List Token} {d : ℕ} → IsWord word.«Type» p s s1 → IsPlainTypeSpec c s1 r d → IsPlainDecl (de.«Type» p c) s r d
      plain_type_group : {p p1 p3 : Span} {cs : List TypeSpec} {s s1 s2 s3 r : List Token} {d : ℕ} → IsWord word.«Type» p s s1 → IsMark mark.LeftParen p1 s1 s2 → ArePlainTypeSpecs cs s2 s3 d → IsMark mark.RightParen p3 s3 r → IsPlainDecl (de.TypeGroup p cs) s r (suc d)
      plain_var_decl : {p : Span} {c : VarSpec} {s s1 r : List Token} {d : ℕ} → IsWord word.Var p s s1 → IsPlainVarSpec c s1 r d → IsPlainDecl (de.Var p c) s r d
      plain_var_group : {p p1 p3 : Span} {cs : List VarSpec} {s s1 s2 s3 r : List Token} {d : ℕ} → IsWord word.Var p s s1 → IsMark mark.LeftParen p1 s1 s2 → ArePlainVarSpecs cs s2 s3 d → IsMark mark.RightParen p3 s3 r → IsPlainDecl (de.VarGroup p cs) s r (suc d)

    -- the values of a return statement (Return statements)
    pub data ArePlainValues : List Expr → List Token → List Token → ℕ → Type 0 where
      plain_some_values : {ts : List Expr} {s r : List Token} {d : ℕ} → ArePlainExprs false ts s r d → ArePlainValues ts s r d
      plain_no_values : {r : List Token} → ArePlainValues [] r r 0

    -- the label of a break or continue statement (Break statements)
    pub data IsPlainTarget : Option Token → List Token → List Token → ℕ → Type 0 where
      plain_a_target : {x : Token} {s r : List Token} → IsName x s r → IsPlainTarget (Some x) s r 0
      plain_no_target : {r : List Token} → IsPlainTarget None r r 0

    -- behind an if (If statements)
    pub data ArePlainArms : List Arm × Option Block → List Token → List Token → ℕ → Type 0 where
      plain_last_arm : {a : Arm} {s r : List Token} {d : ℕ} → IsPlainArm a s r d → ArePlainArms ((a ∷ [], None)) s r d
      plain_more_arms : {p1 p2 : Span} {a : Arm} {m : List Arm × Option Block} {s s1 s2 s3 r : List Token} {d1 d2 : ℕ} → IsPlainArm a s s1 d1 → IsWord word.Else p1 s1 s2 → IsWord word.If p2 s2 s3 → ArePlainArms m s3 r d2 → ArePlainArms ((a ∷ m.0, m.1)) s r (max d1 d2)
      plain_last_block : {p1 : Span} {a : Arm} {b : Block} {s s1 s2 r : List Token} {d1 d2 : ℕ} → IsPlainArm a s s1 d1 → IsWord word.Else p1 s1 s2 → IsPlainBlock b s2 r d2 → ArePlainArms ((a ∷ [], Some b)) s r (max d1 d2)

    pub data IsPlainArm : Arm → List Token → List Token → ℕ → Type 0 where
      plain_header_arm : {x : Token} {i : Simple} {c : Expr} {b : Block} {s s1 s2 s3 r : List Token} {d1 d2 d3 : ℕ} → IsPlainSimple true i s s1 d1 → IsFront is_semi x s1 s2 → IsPlainExpr 5 true false c s2 s3 d2 → IsPlainBlock b s3 r d3 → IsPlainArm (make_arm i c b) s r (max d1 (max d2 d3))
      plain_bare_arm : {c : Expr} {b : Block} {s s1 r : List Token} {d1 d2 : ℕ} → IsPlainExpr 5 true false c s s1 d1 → IsPlainBlock b s1 r d2 → IsPlainArm (make_arm si.Empty c b) s r (max d1 d2)
      plain_empty_arm : {x : Token} {c : Expr} {b : Block} {s s1 s2 r : List Token} {d1 d2 : ℕ} → IsFront is_semi x s s1 → IsPlainExpr 5 true false c s1 s2 d1 → IsPlainBlock b s2 r d2 → IsPlainArm (make_arm si.Empty c b) s r (max d1 d2)

    -- what a switch compares (Switch statements)
    pub data IsPlainTagValue : Option Expr → List Token → List Token → ℕ → Type 0 where
      plain_a_tag_value : {t : Expr} {s r : List Token} {d : ℕ} → IsPlainExpr 5 true false t s r d → IsPlainTagValue (Some t) s r d
      plain_no_tag_value : {r : List Token} → IsPlainTagValue None r r 0

    -- TypeSwitchGuard (Switch statements)
    pub data IsPlainGuard : Option (Token × Span) × Expr × Span → List Token → List Token → ℕ → Type 0 where
      plain_bare_guard : {p2 p3 p p5 : Span} {t : Expr} {s s1 s2 s3 s4 r : List Token} {d : ℕ} → IsPlainPrimary true t s s1 d → IsMark mark.Dot p2 s1 s2 → IsMark mark.LeftParen p3 s2 s3 → IsWord word.«Type» p s3 s4 → IsMark mark.RightParen p5 s4 r → IsPlainGuard ((None, t, p)) s r (max d 1)
      plain_named_guard : {p1 p3 p4 p p6 : Span} {x : Token} {t : Expr} {s s1 s2 s3 s4 s5 s6 r : List Token} {d : ℕ} → IsName x s s1 → IsMark mark.Define p1 s1 s2 → IsPlainPrimary true t s2 s3 d → IsMark mark.Dot p3 s3 s4 → IsMark mark.LeftParen p4 s4 s5 → IsWord word.«Type» p s5 s6 → IsMark mark.RightParen p6 s6 r → IsPlainGuard ((Some (x, p1), t, p)) s r (max d 1)

    -- ExprCaseClause; they may stop anywhere (Switch statements)
    pub data ArePlainClauses : List Clause → List Token → List Token → ℕ → Type 0 where
      plain_a_case : {p p2 : Span} {es : List Expr} {ts : List Stmt} {cs : List Clause} {s s1 s2 s3 s4 r : List Token} {d1 d2 d3 : ℕ} → IsWord word.Case p s s1 → ArePlainExprs false es s1 s2 d1 → IsMark mark.Colon p2 s2 s3 → ArePlainStmts ts s3 s4 d2 → ArePlainClauses cs s4 r d3 → ArePlainClauses (cl.Case p es ts ∷ cs) s r (max d1 (max d2 d3))
      plain_a_default : {p p1 : Span} {ts : List Stmt} {cs : List Clause} {s s1 s2 s3 r : List Token} {d1 d2 : ℕ} → IsWord word.Default p s s1 → IsMark mark.Colon p1 s1 s2 → ArePlainStmts ts s2 s3 d1 → ArePlainClauses cs s3 r d2 → ArePlainClauses (cl.Default p ts ∷ cs) s r (max d1 d2)
      plain_no_clauses : {r : List Token} → ArePlainClauses [] r r 0

    -- TypeList (Switch statements)
    pub data ArePlainTypes : List TypeExpr → List Token → List Token → ℕ → Type 0 where
      plain_one_type : {t : TypeExpr} {s r : List Token} {d : ℕ} → IsPlainType t s r d → ArePlainTypes (t ∷ []) s r d
      plain_more_cases : {p1 : Span} {t : TypeExpr} {ts : List TypeExpr} {s s1 s2 r : List Token} {d1 d2 : ℕ} → IsPlainType t s s1 d1 → IsMark mark.Comma p1 s1 s2 → ArePlainTypes ts s2 r d2 → ArePlainTypes (t ∷ ts) s r (max d1 d2)

    -- TypeCaseClause; they may stop anywhere (Switch statements)
    pub data ArePlainTypeClauses : List TypeClause → List Token → List Token → ℕ → Type 0 where
      plain_a_type_case : {p p2 : Span} {us : List TypeExpr} {ts : List Stmt} {cs : List TypeClause} {s s1 s2 s3 s4 r : List Token} {d1 d2 d3 : ℕ} → IsWord word.Case p s s1 → ArePlainTypes us s1 s2 d1 → IsMark mark.Colon p2 s2 s3 → ArePlainStmts ts s3 s4 d2 → ArePlainTypeClauses cs s4 r d3 → ArePlainTypeClauses (tc.Case p us ts ∷ cs) s r (max d1 (max d2 d3))
      plain_a_type_default : {p p1 : Span} {ts : List Stmt} {cs : List TypeClause} {s s1 s2 s3 r : List Token} {d1 d2 : ℕ} → IsWord word.Default p s s1 → IsMark mark.Colon p1 s1 s2 → ArePlainStmts ts s2 s3 d1 → ArePlainTypeClauses cs s3 r d2 → ArePlainTypeClauses (tc.Default p ts ∷ cs) s r (max d1 d2)
      plain_no_type_clauses : {r : List Token} → ArePlainTypeClauses [] r r 0

    -- CommCase (Select statements)
    pub data IsPlainComm : Comm → List Token → List Token → ℕ → Type 0 where
      plain_comm_assign : {p : Span} {ts : List Expr} {u : Expr} {s s1 s2 r : List Token} {d1 d2 : ℕ} → ArePlainExprs false ts s s1 d1 → IsMark mark.Assign p s1 s2 → IsPlainExpr 5 false false u s2 r d2 → IsPlainComm (cm.Assign ts p u) s r (max d1 d2)
      plain_comm_define : {p : Span} {ts : List Expr} {u : Expr} {s s1 s2 r : List Token} {d1 d2 : ℕ} → ArePlainExprs false ts s s1 d1 → IsMark mark.Define p s1 s2 → IsPlainExpr 5 false false u s2 r d2 → IsPlainComm (cm.Define ts p u) s r (max d1 d2)
      plain_comm_send : {p : Span} {t : Expr} {u : Expr} {s s1 s2 r : List Token} {d1 d2 : ℕ} → IsPlainExpr 5 false false t s s1 d1 → IsMark mark.Arrow p s1 s2 → IsPlainExpr 5 false false u s2 r d2 → IsPlainComm (cm.Send t (operator mark.Arrow p) u) s r (max d1 d2)
      plain_comm_receive : {t : Expr} {s r : List Token} {d : ℕ} → IsPlainExpr 5 false false t s r d → IsPlainComm (cm.Receive t) s r d

    -- CommClause; they may stop anywhere (Select statements)
    pub data ArePlainCommClauses : List CommClause → List Token → List Token → ℕ → Type 0 where
      plain_a_comm : {p p2 : Span} {c : Comm} {ts : List Stmt} {cs : List CommClause} {s s1 s2 s3 s4 r : List Token} {d1 d2 d3 : ℕ} → IsWord word.Case p s s1 → IsPlainComm c s1 s2 d1 → IsMark mark.Colon p2 s2 s3 → ArePlainStmts ts s3 s4 d2 → ArePlainCommClauses cs s4 r d3 → ArePlainCommClauses (co.Case p c ts ∷ cs) s r (max d1 (max d2 d3))
      plain_a_comm_default : {p p1 : Span} {ts : List Stmt} {cs : List CommClause} {s s1 s2 s3 r : List Token} {d1 d2 : ℕ} → IsWord word.Default p s s1 → IsMark mark.Colon p1 s1 s2 → ArePlainStmts ts s2 s3 d1 → ArePlainCommClauses cs s3 r d2 → ArePlainCommClauses (co.Default p ts ∷ cs) s r (max d1 d2)
      plain_no_comms : {r : List Token} → ArePlainCommClauses [] r r 0

    -- the init statement of a for clause with its semicolon (For statements)
    pub data IsPlainHeader : Simple → List Token → List Token → ℕ → Type 0 where
      plain_init_header : {x : Token} {i : Simple} {s s1 r : List Token} {d : ℕ} → IsPlainSimple true i s s1 d → IsFront is_semi x s1 r → IsPlainHeader i s r d
      plain_no_header : {x : Token} {s r : List Token} → IsFront is_semi x s r → IsPlainHeader si.Empty s r 0

    -- the condition of a for clause (For statements)
    pub data IsPlainCondition : Option Expr → List Token → List Token → ℕ → Type 0 where
      plain_a_condition : {t : Expr} {s r : List Token} {d : ℕ} → IsPlainExpr 5 true false t s r d → IsPlainCondition (Some t) s r d
      plain_no_condition : {r : List Token} → IsPlainCondition None r r 0

    -- the post statement of a for clause, which is no `:=` (For statements)
    pub data IsPlainPost : Simple → List Token → List Token → ℕ → Type 0 where
      plain_a_post : {i : Simple} {s r : List Token} {d : ℕ} → IsPlainSimple true i s r d → is_define i ≡ false → IsPlainPost i s r d
      plain_no_post : {r : List Token} → IsPlainPost si.Empty r r 0

    -- RangeClause up to its keyword (For statements)
    pub data IsPlainRangeLeft : RangeLeft → List Token → List Token → ℕ → Type 0 where
      plain_range_assign : {p p2 : Span} {ts : List Expr} {s s1 s2 r : List Token} {d : ℕ} → ArePlainExprs true ts s s1 d → IsMark mark.Assign p s1 s2 → IsWord word.Range p2 s2 r → IsPlainRangeLeft (rl.Assign ts p) s r d
      plain_range_define : {p p2 : Span} {ts : List Expr} {s s1 s2 r : List Token} {d : ℕ} → ArePlainExprs true ts s s1 d → IsMark mark.Define p s1 s2 → IsWord word.Range p2 s2 r → IsPlainRangeLeft (rl.Define ts p) s r d
      plain_no_range_left : {p0 : Span} {s r : List Token} → IsWord word.Range p0 s r → IsPlainRangeLeft rl.Absent s r 0

    -- Statement that has tokens (Statements)
    pub data IsPlainStmt : Stmt → List Token → List Token → ℕ → Type 0 where
      plain_simple_stmt : {t : Simple} {s r : List Token} {d : ℕ} → IsPlainSimple false t s r d → IsPlainStmt (st.Simple t) s r d
      plain_declaration_stmt : {x : Decl} {s r : List Token} {d : ℕ} → IsPlainDecl x s r d → IsPlainStmt (st.Declaration x) s r d
      plain_bare_label : {p1 : Span} {x : Token} {s s1 r : List Token} → IsName x s s1 → IsMark mark.Colon p1 s1 r → IsPlainStmt (st.Labeled x (st.Simple si.Empty)) s r 1
      plain_labeled : {p1 : Span} {x : Token} {t : Stmt} {s s1 s2 r : List Token} {d : ℕ} → IsName x s s1 → IsMark mark.Colon p1 s1 s2 → IsPlainStmt t s2 r d → IsPlainStmt (st.Labeled x t) s r (suc d)
      plain_go : {p : Span} {t : Expr} {s s1 r : List Token} {d : ℕ} → IsWord word.Go p s s1 → IsPlainExpr 5 false false t s1 r d → IsPlainStmt (st.Go p t) s r d
      plain_defer : {p : Span} {t : Expr} {s s1 r : List Token} {d : ℕ} → IsWord word.Defer p s s1 → IsPlainExpr 5 false false t s1 r d → IsPlainStmt (st.Defer p t) s r d
      plain_return : {p : Span} {ts : List Expr} {s s1 r : List Token} {d : ℕ} → IsWord word.Return p s s1 → ArePlainValues ts s1 r d → IsPlainStmt (st.Return p ts) s r d
      plain_break : {p : Span} {o : Option Token} {s s1 r : List Token} {d : ℕ} → IsWord word.Break p s s1 → IsPlainTarget o s1 r d → IsPlainStmt (st.Break p o) s r d
      plain_continue : {p : Span} {o : Option Token} {s s1 r : List Token} {d : ℕ} → IsWord word.Continue p s s1 → IsPlainTarget o s1 r d → IsPlainStmt (st.Continue p o) s r d
      plain_goto : {p : Span} {x : Token} {s s1 r : List Token} → IsWord word.Goto p s s1 → IsName x s1 r → IsPlainStmt (st.Goto p x) s r 0
      plain_fallthrough : {p : Span} {s r : List Token} → IsWord word.Fallthrough p s r → IsPlainStmt (st.Fallthrough p) s r 0
      plain_block_stmt : {p q : Span} {ts : List Stmt} {s s1 s2 r : List Token} {d : ℕ} → IsMark mark.LeftBrace p s s1 → ArePlainStmts ts s1 s2 d → IsMark mark.RightBrace q s2 r → IsPlainStmt (st.Block (make_block p ts q)) s r (suc d)
      plain_if_stmt : {p : Span} {a : List Arm × Option Block} {s s1 r : List Token} {d : ℕ} → IsWord word.If p s s1 → ArePlainArms a s1 r d → IsPlainStmt (st.If p a.0 a.1) s r d
      plain_header_type_switch : {p p3 q : Span} {i : Simple} {y : Option (Token × Span) × Expr × Span} {cs : List TypeClause} {s s1 s2 s3 s4 s5 r : List Token} {d1 d2 d3 : ℕ} → IsWord word.Switch p s s1 → IsPlainHeader i s1 s2 d1 → IsPlainGuard y s2 s3 d2 → IsMark mark.LeftBrace p3 s3 s4 → ArePlainTypeClauses cs s4 s5 d3 → IsMark mark.RightBrace q s5 r → IsPlainStmt (st.TypeSwitch p i y.0 y.1 y.2 cs q) s r (max d1 (max d2 (suc d3)))
      plain_type_switch : {p p3 q : Span} {y : Option (Token × Span) × Expr × Span} {cs : List TypeClause} {s s1 s2 s3 s4 r : List Token} {d1 d2 : ℕ} → IsWord word.Switch p s s1 → IsPlainGuard y s1 s2 d1 → IsMark mark.LeftBrace p3 s2 s3 → ArePlainTypeClauses cs s3 s4 d2 → IsMark mark.RightBrace q s4 r → IsPlainStmt (st.TypeSwitch p si.Empty y.0 y.1 y.2 cs q) s r (max d1 (suc d2))
      plain_header_switch : {p p4 q : Span} {i : Simple} {o : Option Expr} {cs : List Clause} {s s1 s2 s3 s4 s5 r : List Token} {d1 d2 d3 : ℕ} → IsWord word.Switch p s s1 → IsPlainHeader i s1 s2 d1 → IsPlainTagValue o s2 s3 d2 → IsMark mark.LeftBrace p4 s3 s4 → ArePlainClauses cs s4 s5 d3 → IsMark mark.RightBrace q s5 r → IsPlainStmt (st.Switch p i o cs q) s r (max d1 (max d2 (suc d3)))
      plain_switch : {p p4 q : Span} {o : Option Expr} {cs : List Clause} {s s1 s2 s3 s4 r : List Token} {d1 d2 : ℕ} → IsWord word.Switch p s s1 → IsPlainTagValue o s1 s2 d1 → IsMark mark.LeftBrace p4 s2 s3 → ArePlainClauses cs s3 s4 d2 → IsMark mark.RightBrace q s4 r → IsPlainStmt (st.Switch p si.Empty o cs q) s r (max d1 (suc d2))
      plain_select : {p p1 q : Span} {cs : List CommClause} {s s1 s2 s3 r : List Token} {d : ℕ} → IsWord word.Select p s s1 → IsMark mark.LeftBrace p1 s1 s2 → ArePlainCommClauses cs s2 s3 d → IsMark mark.RightBrace q s3 r → IsPlainStmt (st.Select p cs q) s r (suc d)
      plain_endless : {p : Span} {b : Block} {s s1 r : List Token} {d : ℕ} → IsWord word.For p s s1 → IsPlainBlock b s1 r d → IsPlainStmt (st.While p None b) s r d
      plain_range : {p : Span} {x : RangeLeft} {t : Expr} {b : Block} {s s1 s2 s3 r : List Token} {d1 d2 d3 : ℕ} → IsWord word.For p s s1 → IsPlainRangeLeft x s1 s2 d1 → IsPlainExpr 5 true false t s2 s3 d2 → IsPlainBlock b s3 r d3 → IsPlainStmt (st.Range p x t b) s r (max d1 (max d2 d3))
      plain_loop : {p : Span} {y : Token} {i : Simple} {o : Option Expr} {j : Simple} {b : Block} {s s1 s2 s3 s4 s5 r : List Token} {d1 d2 d3 d4 : ℕ} → IsWord word.For p s s1 → IsPlainHeader i s1 s2 d1 → IsPlainCondition o s2 s3 d2 → IsFront is_semi y s3 s4 → IsPlainPost j s4 s5 d3 → IsPlainBlock b s5 r d4 → IsPlainStmt (st.Loop p i o j b) s r (max d1 (max d2 (max d3 d4)))
      plain_while : {p : Span} {t : Expr} {b : Block} {s s1 s2 r : List Token} {d1 d2 : ℕ} → IsWord word.For p s s1 → IsPlainExpr 5 true false t s1 s2 d1 → IsPlainBlock b s2 r d2 → IsPlainStmt (st.While p (Some t) b) s r (max d1 d2)

    -- StatementList: it may stop anywhere, but a statement without a semicolon only before a brace (Blocks)
    pub data ArePlainStmts : List Stmt → List Token → List Token → ℕ → Type 0 where
      plain_last_stmt : {p1 : Span} {t : Stmt} {s r w1 : List Token} {d : ℕ} → IsPlainStmt t s r d → IsMark mark.RightBrace p1 r w1 → ArePlainStmts (t ∷ []) s r d
      plain_more_stmts : {x : Token} {t : Stmt} {ts : List Stmt} {s s1 s2 r : List Token} {d1 d2 : ℕ} → IsPlainStmt t s s1 d1 → IsFront is_semi x s1 s2 → ArePlainStmts ts s2 r d2 → ArePlainStmts (t ∷ ts) s r (max d1 d2)
      plain_empty_stmt : {x : Token} {ts : List Stmt} {s s1 r : List Token} {d : ℕ} → IsFront is_semi x s s1 → ArePlainStmts ts s1 r d → ArePlainStmts (st.Simple si.Empty ∷ ts) s r d
      plain_no_stmts : {r : List Token} → ArePlainStmts [] r r 0

    -- ---- Chunks

    -- ImportSpec (Import declarations)
    pub data IsPlainImportSpec : ImportSpec → List Token → List Token → ℕ → Type 0 where
      plain_path_import : {x : Token} {s r : List Token} → IsText x s r → IsPlainImportSpec (im.Plain x) s r 0
      plain_dot_import : {p : Span} {x : Token} {s s1 r : List Token} → IsMark mark.Dot p s s1 → IsText x s1 r → IsPlainImportSpec (im.Dot p x) s r 0
      plain_named_import : {x y : Token} {s s1 r : List Token} → IsName x s s1 → IsText y s1 r → IsPlainImportSpec (im.Named x y) s r 0

    -- they may stop anywhere
    pub data ArePlainImportSpecs : List ImportSpec → List Token → List Token → ℕ → Type 0 where
      plain_last_import : {c : ImportSpec} {s r : List Token} {d : ℕ} → IsPlainImportSpec c s r d → ArePlainImportSpecs (c ∷ []) s r d
      plain_more_imports : {x : Token} {c : ImportSpec} {cs : List ImportSpec} {s s1 s2 r : List Token} {d1 d2 : ℕ} → IsPlainImportSpec c s s1 d1 → IsFront is_semi x s1 s2 → ArePlainImportSpecs cs s2 r d2 → ArePlainImportSpecs (c ∷ cs) s r (max d1 d2)
      plain_no_imports : {r : List Token} → ArePlainImportSpecs [] r r 0

    -- FunctionBody (Function declarations)
    pub data IsPlainBody : Option Block → List Token → List Token → ℕ → Type 0 where
      plain_a_body : {b : Block} {s r : List Token} {d : ℕ} → IsPlainBlock b s r d → IsPlainBody (Some b) s r d
      plain_no_body : {r : List Token} → IsPlainBody None r r 0

    -- TopLevelDecl; a receiver is one parameter with at most one name (Declarations and scope)
    pub data IsPlainTop : Top → List Token → List Token → ℕ → Type 0 where
      plain_declaration : {x : Decl} {s r : List Token} {d : ℕ} → IsPlainDecl x s r d → IsPlainTop (tp.Declaration x) s r d
      plain_function : {p : Span} {x : Token} {z : Signature} {o : Option Block} {s s1 s2 s3 r : List Token} {d1 d2 : ℕ} → IsWord word.Func p s s1 → IsName x s1 s2 → IsPlainSignature z s2 s3 d1 → IsPlainBody o s3 r d2 → IsPlainTop (tp.Function p x z o) s r (max d1 d2)
      plain_method_decl : {p : Span} {x : Token} {ps : Parameters} {z : Signature} {o : Option Block} {s s1 s2 s3 s4 r : List Token} {d1 d2 d3 : ℕ} → IsWord word.Func p s s1 → ArePlainParams false ps s1 s2 d1 → is_receiver ps ≡ true → IsName x s2 s3 → IsPlainSignature z s3 s4 d2 → IsPlainBody o s4 r d3 → IsPlainTop (tp.Method p ps x z o) s r (max d1 (max d2 d3))

    -- a part of a source file with the semicolon that ends it (Source file organization)
    pub data IsPlainChunk : Chunk → List Token → List Token → ℕ → Type 0 where
      plain_top_chunk : {y : Token} {t : Top} {s s1 r : List Token} {d : ℕ} → IsPlainTop t s s1 d → IsFront is_semi y s1 r → IsPlainChunk (ch.Top t) s r d
      plain_package_clause : {p : Span} {x y : Token} {s s1 s2 r : List Token} → IsWord word.Package p s s1 → IsName x s1 s2 → IsFront is_semi y s2 r → IsPlainChunk (ch.Package x) s r 0
      plain_import_decl : {p : Span} {y : Token} {i : ImportSpec} {s s1 s2 r : List Token} {d : ℕ} → IsWord word.Import p s s1 → IsPlainImportSpec i s1 s2 d → IsFront is_semi y s2 r → IsPlainChunk (ch.Import (i ∷ [])) s r d
      plain_import_group : {p p1 p3 : Span} {y : Token} {cs : List ImportSpec} {s s1 s2 s3 s4 r : List Token} {d : ℕ} → IsWord word.Import p s s1 → IsMark mark.LeftParen p1 s1 s2 → ArePlainImportSpecs cs s2 s3 d → IsMark mark.RightParen p3 s3 s4 → IsFront is_semi y s4 r → IsPlainChunk (ch.Import cs) s r (suc d)

-- the part stands at the front of s, which has fewer than n tokens, and r follows it
abbrev pub PlainBelow : ℕ → Ahead → List Token → List Token → Type 0
PlainBelow zero p s r = ⊥
PlainBelow (suc n) Ahead.a_type s r = (t : TypeExpr) × (d : ℕ) × IsPlainType (PlainBelow n) t s r d
PlainBelow (suc n) Ahead.a_literal s r = (t : LiteralValue) × (d : ℕ) × IsPlainLiteral (PlainBelow n) t s r d
PlainBelow (suc n) Ahead.a_selected s r = (t : Token × LiteralValue) × (d : ℕ) × IsPlainSelected (PlainBelow n) t s r d
PlainBelow (suc n) Ahead.a_block s r = (t : Block) × (d : ℕ) × IsPlainBlock (PlainBelow n) t s r d
PlainBelow (suc n) Ahead.a_received s r = (t : TypeExpr) × (d : ℕ) × IsPlainReceived (PlainBelow n) t s r d

-- what the plain grammar has at the front of s
abbrev pub IsPlainTypeAt : TypeExpr → List Token → List Token → ℕ → Type 0
IsPlainTypeAt t s r d = IsPlainType (PlainBelow (length s)) t s r d

abbrev pub IsPlainExprAt : Bool → Expr → List Token → List Token → ℕ → Type 0
IsPlainExprAt h t s r d = IsPlainExpr (PlainBelow (length s)) 5 h false t s r d

abbrev pub ArePlainStmtsAt : List Stmt → List Token → List Token → ℕ → Type 0
ArePlainStmtsAt t s r d = ArePlainStmts (PlainBelow (length s)) t s r d

abbrev pub IsPlainBlockAt : Block → List Token → List Token → ℕ → Type 0
IsPlainBlockAt t s r d = IsPlainBlock (PlainBelow (length s)) t s r d

abbrev pub IsPlainChunkAt : Chunk → List Token → List Token → ℕ → Type 0
IsPlainChunkAt t s r d = IsPlainChunk (PlainBelow (length s)) t s r d
